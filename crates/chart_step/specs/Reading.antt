-- What the program does with one command: its checks in their order, then its effect. The crate chart_faults says
-- the rules, and the two are proved to agree.
use Rattle.std.specs.Prelude.{ℕ, ◌+◌, Bool, true, false, cond, not, ◌&&◌, ◌||◌, set, replicate, eqb, leb, ltb}
use Rattle.std.specs.Prelude.{Option, Some, None, Result, Ok, Err}
use Rattle.std.specs.Option.{option_or}
use Rattle.std.specs.Int.Bits.{bit_and}
use Rattle.bitset.specs.Set.{within, union}
use Rattle.model.specs.declared.Chart.{Chart}
use Rattle.model.specs.declared.Region.{Region}
use Rattle.model.specs.declared.Event.{Event}
use Rattle.model.specs.declared.Event.TheVariants as event
use Rattle.model.specs.declared.Left.{Left}
use Rattle.model.specs.declared.Left.TheVariants.{Clock, Difference}
use Rattle.model.specs.declared.Relation.{Relation}
use Rattle.model.specs.declared.Relation.TheVariants.{Less, AtMost, Equal, AtLeast, More}
use Rattle.model.specs.Chart.{least_lines, most_lines, most_clocks, most_regions, most_terms, zero_term, is_bare, touched}
use Rattle.chart_command.specs.declared.Command.{Command}
use Rattle.chart_command.specs.declared.Command.TheVariants.{Heading, Message, Plain, ClockTerm, DifferenceTerm, Hot}
use Rattle.chart_command.specs.declared.Command.TheVariants.{Rest, Resets, Main, End}
use Rattle.chart_step.specs.declared.Refusal.{Refusal}
use Rattle.chart_step.specs.declared.Refusal.TheVariants.{Misplaced, Outside, Excess, Bare}
use Rattle.chart_step.specs.declared.Refusal.TheVariants.{HotAlone, Early, RestInPrechart, Unanchored}
use Rattle.chart_step.specs.declared.Refusal.TheVariants.{Mainless, Trailing}
use Rattle.chart_step.specs.declared.Reading.{Reading}
use Rattle.chart_step.specs.declared.Fault.{Fault}
use Rattle.chart_step.specs.declared.Step.{Step}

-- there are five relations
abbrev pub relation_count : ℕ
relation_count = 5

abbrev pub when : Bool → Refusal → ℕ → Option Fault
when true refusal offset = Some (record { refusal = refusal; offset = offset })
when false refusal offset = None

-- the first of two faults
abbrev pub or_else : Option Fault → Option Fault → Option Fault
or_else f g = option_or f g

-- the chart with the region last started put in its place
abbrev pub closed : Reading → Chart
closed r =
    cond (r.started && ltb r.chart.count most_regions)
    (record {
      lines = r.chart.lines;
      clocks = r.chart.clocks;
      prechart = r.chart.prechart;
      count = r.chart.count + 1;
      regions = set r.chart.regions r.chart.count r.region;
    })
    r.chart

-- R5: 3, the command is out of place
abbrev pub is_misplaced : Reading → Command → Bool
is_misplaced r (Heading l k) = r.headed
is_misplaced r (Message s d l) = not r.headed
is_misplaced r (Plain l) = not r.headed
is_misplaced r (ClockTerm k e n) = not r.started
is_misplaced r (DifferenceTerm a b e n) = not r.started
is_misplaced r Hot = not r.started || r.region.hot
is_misplaced r Rest = not r.started || r.region.rest
is_misplaced r (Resets k) = not r.started || not (eqb r.region.resets 0)
is_misplaced r Main = not r.headed || r.main
is_misplaced r End = not r.headed

-- R4: 6 and 7, what the region that is closed lacks, at the offset of its own command
abbrev pub closing_fault : Reading → Option Fault
closing_fault r =
    or_else (when (r.started && is_bare r.region) Bare r.start)
    (when (r.started && (r.region.hot && eqb r.region.count 0)) HotAlone r.start)

-- R6: the fault of the region that the command closes
abbrev pub closes : Reading → Command → Option Fault
closes r (Heading l k) = None
closes r (Message s d l) = closing_fault r
closes r (Plain l) = closing_fault r
closes r (ClockTerm k e n) = None
closes r (DifferenceTerm a b e n) = None
closes r Hot = None
closes r Rest = None
closes r (Resets k) = None
closes r Main = closing_fault r
closes r End = closing_fault r

-- R7: 4, an operand out of its range
abbrev pub is_outside : Chart → Command → Bool
is_outside c (Heading l k) = not (leb least_lines l && (leb l most_lines && leb k most_clocks))
is_outside c (Message s d l) = leb c.lines s || (leb c.lines d || eqb s d)
is_outside c (Plain l) = eqb l 0 || not (within c.lines l)
is_outside c (ClockTerm k e n) = leb c.clocks k || leb relation_count e
is_outside c (DifferenceTerm a b e n) = leb c.clocks a || (leb c.clocks b || (eqb a b || leb relation_count e))
is_outside c Hot = false
is_outside c Rest = false
is_outside c (Resets k) = eqb k 0 || not (within c.clocks k)
is_outside c Main = false
is_outside c End = false

-- R4: 5, one region or one term too many
abbrev pub is_excess : Reading → Command → Bool
is_excess r (Heading l k) = false
is_excess r (Message s d l) = leb most_regions (closed r).count
is_excess r (Plain l) = leb most_regions (closed r).count
is_excess r (ClockTerm k e n) = leb most_terms r.region.count
is_excess r (DifferenceTerm a b e n) = leb most_terms r.region.count
is_excess r Hot = false
is_excess r Rest = false
is_excess r (Resets k) = false
is_excess r Main = false
is_excess r End = false

-- R4: 8, hot before the 50
abbrev pub is_early : Reading → Command → Bool
is_early r (Heading l k) = false
is_early r (Message s d l) = false
is_early r (Plain l) = false
is_early r (ClockTerm k e n) = false
is_early r (DifferenceTerm a b e n) = false
is_early r Hot = not r.main
is_early r Rest = false
is_early r (Resets k) = false
is_early r Main = false
is_early r End = false

-- R4: 13, a mark before the 50
abbrev pub is_resting : Reading → Command → Bool
is_resting r (Heading l k) = false
is_resting r (Message s d l) = false
is_resting r (Plain l) = false
is_resting r (ClockTerm k e n) = false
is_resting r (DifferenceTerm a b e n) = false
is_resting r Hot = false
is_resting r Rest = not r.main
is_resting r (Resets k) = false
is_resting r Main = false
is_resting r End = false

-- R8: 9, a plain region of the opening half, of whose lines no earlier region touches one
abbrev pub is_unanchored : Reading → Command → Bool
is_unanchored r (Heading l k) = false
is_unanchored r (Message s d l) = false
is_unanchored r (Plain l) = (not r.main || eqb r.chart.prechart 0) && eqb (bit_and l r.touched) 0
is_unanchored r (ClockTerm k e n) = false
is_unanchored r (DifferenceTerm a b e n) = false
is_unanchored r Hot = false
is_unanchored r Rest = false
is_unanchored r (Resets k) = false
is_unanchored r Main = false
is_unanchored r End = false

-- the command is the 7F
abbrev pub is_end : Command → Bool
is_end (Heading l k) = false
is_end (Message s d l) = false
is_end (Plain l) = false
is_end (ClockTerm k e n) = false
is_end (DifferenceTerm a b e n) = false
is_end Hot = false
is_end Rest = false
is_end (Resets k) = false
is_end Main = false
is_end End = true

-- R4: 10, at the 7F no 50 has come, or no region since
abbrev pub is_mainless : Reading → Command → Bool
is_mainless r c = is_end c && (not r.main || eqb (closed r).count (closed r).prechart)

-- R4: 11, a byte stands after the 7F
abbrev pub is_trailing : Bool → Command → Bool
is_trailing more c = is_end c && more

-- R4: the first fault that the checks of one command find. A closing fault has its own offset; 11 is at the byte after
-- the command, every other fault at the command itself.
abbrev pub first_fault : Bool → Option Fault → Bool → Bool → Bool → Bool → Bool → Bool → Bool → ℕ → ℕ → Option Fault
first_fault misplaced closing outside excess early resting unanchored mainless trailing at next =
    or_else (when misplaced Misplaced at)
    (or_else closing
    (or_else (when outside Outside at)
    (or_else (when excess Excess at)
    (or_else (when early Early at)
    (or_else (when resting RestInPrechart at)
    (or_else (when unanchored Unanchored at)
    (or_else (when mainless Mainless at) (when trailing Trailing next))))))))

-- The fault of the command c at `at`; `next` is the offset just after it, and `more` says whether bytes follow.
abbrev pub fault_of : Reading → ℕ → ℕ → Bool → Command → Option Fault
fault_of r at next more c =
    first_fault (is_misplaced r c) (closes r c) (is_outside r.chart c) (is_excess r c) (is_early r c) (is_resting r c)
    (is_unanchored r c) (is_mainless r c) (is_trailing more c) at next

abbrev pub with_heading : Reading → ℕ → ℕ → Reading
with_heading r l k =
    record {
      headed = true;
      main = r.main;
      started = r.started;
      start = r.start;
      touched = r.touched;
      region = r.region;
      chart =
          record {
            lines = l;
            clocks = k;
            prechart = r.chart.prechart;
            count = r.chart.count;
            regions = r.chart.regions;
          };
    }

-- the region last started is closed, and one with this event starts
abbrev pub begun_with : Reading → ℕ → Event → Reading
begun_with r at e =
    record {
      headed = r.headed;
      main = r.main;
      started = true;
      start = at;
      touched = union r.touched (touched e);
      region =
          record {
            event = e;
            terms = replicate most_terms zero_term;
            count = 0;
            hot = false;
            resets = 0;
            rest = false;
          };
      chart = closed r;
    }

abbrev pub with_region : Reading → Region → Reading
with_region r g =
    record {
      headed = r.headed;
      main = r.main;
      started = r.started;
      start = r.start;
      touched = r.touched;
      region = g;
      chart = r.chart;
    }

-- B2: the relation that a byte stands for
abbrev pub relation_of : ℕ → Relation
relation_of b = cond (eqb b 0) Less (cond (eqb b 1) AtMost (cond (eqb b 2) Equal (cond (eqb b 3) AtLeast More)))

abbrev pub with_term : Reading → Left → ℕ → ℕ → Reading
with_term r left e n =
    cond (ltb r.region.count most_terms)
    (with_region r
    (record {
      event = r.region.event;
      terms = set r.region.terms r.region.count (record { left = left; relation = relation_of e; n = n });
      count = r.region.count + 1;
      hot = r.region.hot;
      resets = r.region.resets;
      rest = r.region.rest;
    }))
    r

abbrev pub with_hot : Reading → Reading
with_hot r =
    with_region r
    (record {
      event = r.region.event;
      terms = r.region.terms;
      count = r.region.count;
      hot = true;
      resets = r.region.resets;
      rest = r.region.rest;
    })

abbrev pub with_rest : Reading → Reading
with_rest r =
    with_region r
    (record {
      event = r.region.event;
      terms = r.region.terms;
      count = r.region.count;
      hot = r.region.hot;
      resets = r.region.resets;
      rest = true;
    })

abbrev pub with_resets : Reading → ℕ → Reading
with_resets r k =
    with_region r
    (record {
      event = r.region.event;
      terms = r.region.terms;
      count = r.region.count;
      hot = r.region.hot;
      resets = k;
      rest = r.region.rest;
    })

-- the region last started is closed, and no other starts
abbrev pub with_chart : Reading → Bool → Chart → Reading
with_chart r main c =
    record {
      headed = r.headed;
      main = main;
      started = false;
      start = r.start;
      touched = r.touched;
      region = r.region;
      chart = c;
    }

abbrev pub with_main : Reading → Reading
with_main r =
    with_chart r true
    (record {
      lines = (closed r).lines;
      clocks = (closed r).clocks;
      prechart = (closed r).count;
      count = (closed r).count;
      regions = (closed r).regions;
    })

-- What a command does if no check refuses it.
abbrev pub applied : Reading → ℕ → Command → Reading
applied r at (Heading l k) = with_heading r l k
applied r at (Message s d l) = begun_with r at (event.Message (record { source = s; destination = d; label = l }))
applied r at (Plain l) = begun_with r at (event.Plain l)
applied r at (ClockTerm k e n) = with_term r (Clock k) e n
applied r at (DifferenceTerm a b e n) = with_term r (Difference a b) e n
applied r at Hot = with_hot r
applied r at Rest = with_rest r
applied r at (Resets k) = with_resets r k
applied r at Main = with_main r
applied r at End = with_chart r r.main (closed r)

-- R1: the next command is just after this one, unless it is the 7F
abbrev pub next_of : ℕ → Command → Option ℕ
next_of next c = cond (is_end c) None (Some next)

abbrev pub decided : Option Fault → Step → Result Step Fault
decided None s = Ok s
decided (Some f) s = Err f

-- one command: its fault, or what it does
abbrev pub step_of : Reading → ℕ → ℕ → Bool → Command → Result Step Fault
step_of r at next more c = decided (fault_of r at next more c) (record { reading = applied r at c; next = next_of next c })
