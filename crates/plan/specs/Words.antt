-- A term as one number, as the steps read it.
use Rattle.std.specs.Prelude.{cond, ℕ, ◌+◌, ◌*◌, ltb}
use Rattle.model.specs.declared.Term.{Term}
use Rattle.model.specs.declared.Region.{Region}
use Rattle.model.specs.declared.Left.{Left}
use Rattle.model.specs.declared.Left.TheVariants.{Clock, Difference}
use Rattle.model.specs.Chart.{most_clocks, term_at}
use Rattle.condition.specs.Rows.{row_bits, biased}
use Rattle.layout.specs.View.{second_place, row_place, number_place}

abbrev pub first_clock : Left → ℕ
first_clock (Clock k) = k
first_clock (Difference a b) = a

-- a term of one clock has no second clock: a number beyond every clock's
abbrev pub second_clock : Left → ℕ
second_clock (Clock k) = most_clocks
second_clock (Difference a b) = b

abbrev pub word_of : Term → ℕ
word_of t = biased t.n * number_place + row_bits t.relation * row_place + second_clock t.left * second_place
    + first_clock t.left

-- the word at place j of a region; without a term, 0
abbrev pub word_at : Region → ℕ → ℕ
word_at g j = cond (ltb j g.count) (word_of (term_at g j)) 0
