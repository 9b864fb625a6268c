-- A pace is that of a plain log, or that of a raw one. Assumes nothing.
use Rattle.std.proofs.Common.{◌≡◌, ℕ, true, sym, refl, subst, eqb-true}
use mathlib.Core.Bool.{Bool-set}
use mathlib.Core.Logic.{inl, inr}
use Rattle.base.proofs.Bools.{both, either}
use Rattle.log_reader.specs.Record.{message_tag, raw_message_tag}
use Rattle.log_check.specs.declared.pace.Pace.{Pace}
use Rattle.log_check.specs.Paced.{is_paced}
use Rattle.log_check.specs.Met.{plain_pace, raw_pace}

pub data Paced : Pace → Type 0 where
  plainly : Paced plain_pace
  rawly : (o : ℕ) → Paced (raw_pace o)

-- by its numbers, and the fact that it has
abbrev PacedBy : ℕ → ℕ → ℕ → Type 0
PacedBy m o x = (h : is_paced m o x ≡ true) → Paced (record { message = m; origin = o; most = x; paced = h })

plain : (m o x : ℕ) → m ≡ message_tag → o ≡ 0 → x ≡ 0xFFFF_FFFF → PacedBy m o x
plain m o x a b c =
    subst (λ (m : ℕ). PacedBy m o x) (sym a) (subst (λ (o : ℕ). PacedBy message_tag o x) (sym b)
    (subst (λ (x : ℕ). PacedBy message_tag 0 x) (sym c)
    (λ h. subst (λ (h : is_paced message_tag 0 0xFFFF_FFFF ≡ true).
    Paced (record { message = message_tag; origin = 0; most = 0xFFFF_FFFF; paced = h })) (Bool-set _ _ refl h) plainly)))

raw : (m o x : ℕ) → m ≡ raw_message_tag → x ≡ 0x7FFF_FFFF → PacedBy m o x
raw m o x a c =
    subst (λ (m : ℕ). PacedBy m o x) (sym a) (subst (λ (x : ℕ). PacedBy raw_message_tag o x) (sym c)
    (λ h. subst (λ (h : is_paced raw_message_tag o 0x7FFF_FFFF ≡ true).
    Paced (record { message = raw_message_tag; origin = o; most = 0x7FFF_FFFF; paced = h })) (Bool-set _ _ refl h)
    (rawly o)))

pub paced : (p : Pace) → Paced p
paced p = elim (either _ _ p.paced) [
  | inl t ↦
      let a = both _ _ t in
      let b = both _ _ a.1 in
      plain p.message p.origin p.most (eqb-true _ _ a.0) (eqb-true _ _ b.1) (eqb-true _ _ b.0) p.paced
  | inr t ↦
      let a = both _ _ t in
      raw p.message p.origin p.most (eqb-true _ _ a.0) (eqb-true _ _ a.1) p.paced
]
