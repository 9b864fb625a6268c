-- What showing the answers of a live monitor returns and writes; feeding the same bytes returns it. Assumes nothing.
use mathlib.Core.Path.{◌≡◌, sym, ap, ◌∙◌}
use mathlib.Core.List.{List}
use Prim.Native.Nat.{ℕ}
use lib.ListN.{length, get_or}
use Rattle.model.specs.declared.Chart.{Chart}
use Rattle.model.specs.declared.Monitor.{Monitor}
use Rattle.model.specs.Answers.{fed_number}
use Rattle.preview.specs.Preview.{Previewed, preview_number, preview_of, buffer_of}
use Rattle.preview.proofs.Bytes.{zero_shown, byte_fed}
use Rattle.monitor_image.specs.MonitorImage.{monitor_in}
use Rattle.live.specs.Live.{chart_in}
use Rattle.live_preview.specs.Preview.{preview_in, regions_told, Foretells}

module _ (live : List ℕ) (time : ℕ) (out : List ℕ) where
  pub foretells : (r : ℕ) (n : List ℕ) → r ≡ preview_number (preview_in live time (length out))
      → n ≡ buffer_of (chart_in live) (monitor_in live) (record { 0 = time }) out → Foretells live time r n
  foretells r n e q = record {
    fed = λ z i x h v a next F.
        ap (λ (k : List ℕ). get_or k i 0) q
        ∙ byte_fed (chart_in live) (monitor_in live) (record { 0 = time }) out
        (zero_shown (preview_in live time (length out)) (sym e ∙ z)) i h x v F.by_chart.taken F.by_chart.fed
        ∙ ap fed_number (sym F.by_chart.ans);
  }

  module _ (c : Chart) (m : Monitor) (p : c ≡ chart_in live) (q : m ≡ monitor_in live) (a : Previewed)
      (e : a ≡ preview_of c m (record { 0 = time }) (length out)) where
    same_answer : a ≡ preview_in live time (length out)
    same_answer = e ∙ (λ i. preview_of (p i) (q i) (record { 0 = time }) (length out))

    pub previewed : (r regions : ℕ) (n : List ℕ) → r ≡ preview_number a → regions ≡ regions_told c.count a
        → n ≡ buffer_of c m (record { 0 = time }) out
        → (r ≡ preview_number (preview_in live time (length out)))
        × (n ≡ buffer_of (chart_in live) (monitor_in live) (record { 0 = time }) out)
        × (regions ≡ regions_told (chart_in live).count (preview_in live time (length out)))
        × Foretells live time r n
    previewed r regions n u v w =
        let x = u ∙ ap preview_number same_answer in
        let y = w ∙ (λ i. buffer_of (p i) (q i) (record { 0 = time }) out) in
        (x, y, v ∙ (λ i. regions_told (p i).count (same_answer i)), foretells r n x y)
