-- From what reading one record says, its answer follows. Assumes nothing.
use mathlib.Core.Path.{◌≡◌, refl, ap}
use Prim.Native.Nat.{ℕ}
use native.Mathlib.Omega.{arith}
use Rattle.std.specs.Prelude.{Ok, Err}
use Rattle.log_reader.specs.declared.RecordRefusal.{RecordRefusal}
use Rattle.log_reader.specs.declared.RecordRefusal.TheVariants.{CutShort, UnknownByte}
use Rattle.log_reader.specs.declared.Next.TheVariants.{End, Handed, Raw}
use Rattle.log_reader.specs.Record.{record_refusal_number, RecordRead, said}

number_tells : (k l : RecordRefusal) → record_refusal_number k ≡ record_refusal_number l → k ≡ l
number_tells CutShort CutShort e = refl
number_tells CutShort UnknownByte e = absurd (omega arith)
number_tells UnknownByte CutShort e = absurd (omega arith)
number_tells UnknownByte UnknownByte e = refl

-- no two answers at one offset say the same
pub said_tells : (at : ℕ) (x y : RecordRead) → said at x ≡ said at y → x ≡ y
said_tells at (Ok End) (Ok End) e = refl
said_tells at (Ok End) (Err l) e = let z : ◌≡◌ {A = ℕ} 0 1 = cc in absurd (omega arith)
said_tells at (Ok End) (Ok (Handed s q)) e = let z : ◌≡◌ {A = ℕ} 0 1 = cc in absurd (omega arith)
said_tells at (Ok End) (Ok (Raw s q)) e = let z : ◌≡◌ {A = ℕ} 0 1 = cc in absurd (omega arith)
said_tells at (Err k) (Ok End) e = let z : ◌≡◌ {A = ℕ} 0 1 = cc in absurd (omega arith)
said_tells at (Err k) (Err l) e = ap Err (number_tells k l (cc))
said_tells at (Err k) (Ok (Handed s q)) e = let z : ◌≡◌ {A = ℕ} 0 1 = cc in absurd (omega arith)
said_tells at (Err k) (Ok (Raw s q)) e = let z : ◌≡◌ {A = ℕ} 0 1 = cc in absurd (omega arith)
said_tells at (Ok (Handed r p)) (Ok End) e = let z : ◌≡◌ {A = ℕ} 0 1 = cc in absurd (omega arith)
said_tells at (Ok (Handed r p)) (Err l) e = let z : ◌≡◌ {A = ℕ} 0 1 = cc in absurd (omega arith)
said_tells at (Ok (Handed r p)) (Ok (Handed s q)) e = cc
said_tells at (Ok (Handed r p)) (Ok (Raw s q)) e = let z : ◌≡◌ {A = ℕ} 0 1 = cc in absurd (omega arith)
said_tells at (Ok (Raw r p)) (Ok End) e = let z : ◌≡◌ {A = ℕ} 0 1 = cc in absurd (omega arith)
said_tells at (Ok (Raw r p)) (Err l) e = let z : ◌≡◌ {A = ℕ} 0 1 = cc in absurd (omega arith)
said_tells at (Ok (Raw r p)) (Ok (Handed s q)) e = let z : ◌≡◌ {A = ℕ} 0 1 = cc in absurd (omega arith)
said_tells at (Ok (Raw r p)) (Ok (Raw s q)) e = cc
