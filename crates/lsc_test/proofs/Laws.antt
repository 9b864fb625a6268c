-- A monitor by its image: too few bytes, or made and fed for the chart in the image. Assumes nothing.
use mathlib.Core.Path.{◌≡◌, refl, ap, subst, ◌∙◌}
use mathlib.Core.Bool.{cond}
use mathlib.Core.List.{List, ◌++◌}
use Prim.Native.Nat.{ℕ, ◌≤◌, ◌<◌}
use native.Mathlib.Omega.{arith}
use borrow.Author.Tests.{lt-ltb, le-ltb}
use lib.ListN.{length, drop}
use Rattle.model.specs.declared.Chart.{Chart}
use Rattle.model.specs.declared.Monitor.{Monitor}
use Rattle.model.specs.declared.Record.{Record}
use Rattle.model.specs.declared.FeedRefusal.TheVariants.{NotAChart}
use Rattle.model.specs.Answers.{feed_refusal_number, too_short, Fed, fed_number}
use Rattle.monitor.specs.Feed.{made_number, MadeOf}
use Rattle.monitor.specs.declared.Made.{Made}
use Rattle.chart_value.specs.WellFormed.{well_formed}
use Rattle.chart_image.specs.ChartImage.{chart_value_of}
use Rattle.wire.specs.Writing.{Wrote}
use Rattle.monitor_image.specs.MonitorImage.{monitor_size, monitor_bytes, monitor_in}
use Rattle.live.specs.Live.{LiveFedBy}
use Rattle.live.proofs.Charts.{zero_refused}
use Rattle.live.proofs.Feeding.{exactly_20, monitor_at_start}
use Rattle.lsc_test.specs.Images.{new_number, new_bytes, FedImage}

pub image_short : (image : List ℕ) {l : List ℕ} (e : Record) → length l < monitor_size → FedImage image l e too_short l
image_short image e h =
    record { short = λ g. (refl, refl); by_chart = λ g. absurd (omega arith); none = λ g x. absurd (omega arith) }

pub image_fed : {image l n : List ℕ} {e : Record} {a : Fed} {r : ℕ} (c : Chart) → c ≡ chart_value_of image
    → monitor_size ≤ length l → LiveFedBy c l e a n → r ≡ fed_number a → FedImage image l e r n
unfolding chart_value_of
image_fed {image} {l} {n} {e} {a} {r} c p h F q = record {
  short = λ g. absurd (omega arith);
  by_chart = λ g. (a, subst (λ (c : Chart). LiveFedBy c l e a n) p F, q);
  none = λ g x.
      q ∙ ap fed_number F.ans
      ∙ (exactly_20 c (monitor_in l) e F.taken F.fed).0 (ap well_formed (p ∙ rw x) ∙ zero_refused);
}

pub new_short : (image l : List ℕ) → length l < monitor_size → (too_short ≡ new_number image l) × (l ≡ new_bytes l)
unfolding new_number new_bytes
new_short image l h = let e = lt-ltb (length l) monitor_size h in (rw e, rw e)

pub new_made : (image l : List ℕ) {n : List ℕ} {j : ℕ} (c : Chart) (made : Made) (r : ℕ) → monitor_size ≤ length l
    → c ≡ chart_value_of image → MadeOf c made
    → r ≡ made_number made.answer → Wrote l 0 (monitor_bytes made.monitor) n j → (r ≡ new_number image l)
    × (n ≡ new_bytes l)
unfolding new_number new_bytes
new_made image l {n} c made r h p M t w =
    let e = le-ltb (length l) monitor_size h in (
      rw e (t ∙ M.number ∙ ap (λ (c : Chart). cond (well_formed c) 0 (feed_refusal_number NotAChart)) p),
      rw e (monitor_at_start made.monitor w h
          ∙ ap (λ (m : Monitor). monitor_bytes m ++ drop monitor_size l) M.monitor),
    )
