-- A verdict as numbers, in the order of its fields; the cause that an answer gives out; a relation's number.
use Rattle.std.specs.Prelude.{ℕ, List, [], ◌∷◌, Ok, Err}
use Rattle.model.specs.declared.Cause.{Cause}
use Rattle.model.specs.declared.Answer.{Answer}
use Rattle.model.specs.declared.Answer.TheVariants.{Broken, Kept, Dropped, Entered, Moved, Quiet}
use Rattle.model.specs.declared.Verdict.{Verdict}
use Rattle.model.specs.declared.Relation.{Relation}
use Rattle.model.specs.declared.Relation.TheVariants.{Less, AtMost, Equal, AtLeast, More}
use Rattle.model.specs.Answers.{Fed}
use Rattle.model.specs.Monitor.{no_cause}

-- how many places of a buffer a verdict or a refusal takes
abbrev pub places : ℕ
places = 8

-- J6: the verdict's numbers
abbrev pub verdict_numbers : Verdict → List ℕ
verdict_numbers v = v.standing ∷ v.kept ∷ v.dropped ∷ v.records ∷ v.broken ∷ v.reason ∷ v.region ∷ v.term ∷ []

-- T31: the cause that an answer has; only broken and dropped have one
abbrev pub answer_cause : Answer → Cause
answer_cause (Broken n k x) = x
answer_cause Kept = no_cause
answer_cause (Dropped x) = x
answer_cause Entered = no_cause
answer_cause Moved = no_cause
answer_cause Quiet = no_cause

-- no condition decided a refusal
abbrev pub fed_cause : Fed → Cause
fed_cause (Ok a) = answer_cause a
fed_cause (Err k) = no_cause

-- C10: the relations, in their order
abbrev pub relation_number : Relation → ℕ
relation_number Less = 0
relation_number AtMost = 1
relation_number Equal = 2
relation_number AtLeast = 3
relation_number More = 4
