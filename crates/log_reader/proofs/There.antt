-- The record at an offset, by its byte; and where no whole record of a kind stands, none is handed out. Assumes nothing.
use mathlib.Core.Path.{◌≡◌, refl, ap, ◌∙◌}
use mathlib.Core.Bool.{Bool, true, false, cond, ◌&&◌}
use mathlib.Core.Logic.{◌⊎◌, inl, inr, ⊎_elim}
use mathlib.Core.List.{List}
use Prim.Native.Nat.{ℕ, ◌+◌, ◌≤◌, ◌<◌}
use native.Mathlib.Omega.{arith}
use borrow.Author.Tests.{lt-ltb, le-ltb, lt-leb, eq-eqb, ne_eqb}
use lib.ListN.{length, get_or}
use Rattle.std.specs.Prelude.{Ok, Err}
use lib.Dec.{leb, ltb, eqb}
use Rattle.log_reader.specs.declared.RecordRefusal.TheVariants.{CutShort}
use Rattle.log_reader.specs.declared.Next.TheVariants.{End, Handed, Raw}
use Rattle.log_reader.specs.Record.{message_tag, time_tag, raw_message_tag, raw_time_tag, message_size, time_size}
use Rattle.log_reader.specs.Record.{RecordRead, message_at, time_at, raw_message_at, raw_time_at}
use Rattle.log_reader.specs.Next.{next_at}
use Rattle.log_reader.proofs.Offsets.{read, is_read}

-- a plain record was read, and a raw one
abbrev pub is_handed : RecordRead → Bool
is_handed (Ok End) = false
is_handed (Err f) = false
is_handed (Ok (Handed e p)) = true
is_handed (Ok (Raw e p)) = false

abbrev pub is_raw : RecordRead → Bool
is_raw (Ok End) = false
is_raw (Err f) = false
is_raw (Ok (Handed e p)) = false
is_raw (Ok (Raw e p)) = true

module _ (s : List ℕ) (at : ℕ) where
  -- a byte is not two tags
  other : (tag k : ℕ) → get_or s at 0 ≡ k → (k < tag) ⊎ (tag < k) → eqb (get_or s at 0) tag ≡ false
  other tag k e d = ne_eqb (get_or s at 0) tag (λ z. ⊎_elim (λ l. omega (arith, z, e, l)) (λ l. omega (arith, z, e, l)) d)

  -- before the end the byte picks the record; it is there if all its bytes are
  abbrev if_whole : ℕ → RecordRead → RecordRead
  if_whole size n = cond (ltb (length s) (at + size)) (Err CutShort) n

  pub message_read : at < length s → get_or s at 0 ≡ message_tag
      → next_at s at ≡ if_whole message_size (Ok (Handed (message_at s at) (at + message_size)))
  message_read h a = rw (lt-leb _ _ h, eq-eqb _ _ a)

  pub raw_message_read : at < length s → get_or s at 0 ≡ raw_message_tag
      → next_at s at ≡ if_whole message_size (Ok (Raw (raw_message_at s at) (at + message_size)))
  raw_message_read h a = rw (lt-leb _ _ h, other message_tag _ a (inr (omega arith)), eq-eqb _ _ a)

  pub time_read : at < length s → get_or s at 0 ≡ time_tag
      → next_at s at ≡ if_whole time_size (Ok (Handed (time_at s at) (at + time_size)))
  time_read h a =
      rw (
        lt-leb _ _ h,
        other message_tag _ a (inr (omega arith)),
        other raw_message_tag _ a (inl (omega arith)),
        eq-eqb _ _ a,
      )

  pub raw_time_read : at < length s → get_or s at 0 ≡ raw_time_tag
      → next_at s at ≡ if_whole time_size (Ok (Raw (raw_time_at s at) (at + time_size)))
  raw_time_read h a =
      rw (
        lt-leb _ _ h,
        other message_tag _ a (inr (omega arith)),
        other raw_message_tag _ a (inr (omega arith)),
        other time_tag _ a (inr (omega arith)),
        eq-eqb _ _ a,
      )

  pub is_whole : (size : ℕ) (n : RecordRead) → at + size ≤ length s → if_whole size n ≡ n
  is_whole size n h = rw (le-ltb _ _ h)

  pub is_cut : (size : ℕ) (n : RecordRead) → length s < at + size → if_whole size n ≡ Err CutShort
  is_cut size n h = rw (lt-ltb _ _ h)

  none_handed : (a p q t u m k : Bool) → (p && m) ≡ false → (t && k) ≡ false → is_handed (read s at a p q t u m k) ≡ false
  none_handed true p q t u m k x y = refl
  none_handed false true q t u true k x y = x
  none_handed false true q t u false k x y = refl
  none_handed false false true t u true k x y = refl
  none_handed false false true t u false k x y = refl
  none_handed false false false true u m true x y = y
  none_handed false false false true u m false x y = refl
  none_handed false false false false true m true x y = refl
  none_handed false false false false true m false x y = refl
  none_handed false false false false false m k x y = refl

  none_raw : (a p q t u m k : Bool) → (q && m) ≡ false → (u && k) ≡ false → is_raw (read s at a p q t u m k) ≡ false
  none_raw true p q t u m k x y = refl
  none_raw false true q t u true k x y = refl
  none_raw false true q t u false k x y = refl
  none_raw false false true t u true k x y = x
  none_raw false false true t u false k x y = refl
  none_raw false false false true u m true x y = refl
  none_raw false false false true u m false x y = refl
  none_raw false false false false true m true x y = y
  none_raw false false false false true m false x y = refl
  none_raw false false false false false m k x y = refl

  -- where no whole plain record stands, none is handed out, and likewise raw ones
  pub no_plain : (eqb (get_or s at 0) message_tag && leb (at + message_size) (length s)) ≡ false
      → (eqb (get_or s at 0) time_tag && leb (at + time_size) (length s)) ≡ false → is_handed (next_at s at) ≡ false
  no_plain x y =
      ap is_handed (is_read s at)
      ∙ none_handed (leb (length s) at) (eqb (get_or s at 0) message_tag) (eqb (get_or s at 0) raw_message_tag)
      (eqb (get_or s at 0) time_tag) (eqb (get_or s at 0) raw_time_tag) (leb (at + message_size) (length s))
      (leb (at + time_size) (length s)) x y

  pub no_raw : (eqb (get_or s at 0) raw_message_tag && leb (at + message_size) (length s)) ≡ false
      → (eqb (get_or s at 0) raw_time_tag && leb (at + time_size) (length s)) ≡ false → is_raw (next_at s at) ≡ false
  no_raw x y =
      ap is_raw (is_read s at)
      ∙ none_raw (leb (length s) at) (eqb (get_or s at 0) message_tag) (eqb (get_or s at 0) raw_message_tag)
      (eqb (get_or s at 0) time_tag) (eqb (get_or s at 0) raw_time_tag) (leb (at + message_size) (length s))
      (leb (at + time_size) (length s)) x y
