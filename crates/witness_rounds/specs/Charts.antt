-- Two charts beside chart U (X1), and the records that are fed to them and to chart D. Regions are numbered from 0, as
-- in the theory.
use Rattle.std.specs.Prelude.{List, [], ◌∷◌, ℕ}
use Rattle.model.specs.declared.Record.{Record}
use Rattle.model.specs.declared.Record.TheVariants.{Message, Time}
use Rattle.base.specs.Lists.{Snoc, ε, ◌▸◌}
use Rattle.examples.specs.Examples.{message}
use Rattle.witnesses.specs.Feeds.{message as sent}

-- Chart A: what is asked and passed on within 10 ticks is answered within 30. Three lines, clocks 0 and 1.
abbrev pub chart_a : List ℕ
chart_a =
    0x10 ∷ 0x03 ∷ 0x02
    -- 0: ask, 0 to 1, label 1; resets clock 0
    ∷ 0x20 ∷ 0x00 ∷ 0x01 ∷ 0x00 ∷ 0x01 ∷ 0x40 ∷ 0x01
    -- 1: pass, 1 to 2, label 2; cold: clock 0 > 0; resets clock 1
    ∷ 0x20 ∷ 0x01 ∷ 0x02 ∷ 0x00 ∷ 0x02 ∷ 0x30 ∷ 0x00 ∷ 0x04 ∷ 0x00 ∷ 0x00 ∷ 0x00 ∷ 0x00 ∷ 0x40 ∷ 0x02
    -- 2: plain, on lines 0 and 1; cold: clock 1 minus clock 0 ≥ -10, and clock 1 = 0
    ∷ 0x21 ∷ 0x00 ∷ 0x03 ∷ 0x31 ∷ 0x01 ∷ 0x00 ∷ 0x03 ∷ 0xff ∷ 0xff ∷ 0xff ∷ 0xf6
    ∷ 0x30 ∷ 0x01 ∷ 0x02 ∷ 0x00 ∷ 0x00 ∷ 0x00 ∷ 0x00
    -- the main chart
    ∷ 0x50
    -- 3: answer, 2 to 0, label 3; hot: clock 1 < 30
    ∷ 0x20 ∷ 0x02 ∷ 0x00 ∷ 0x00 ∷ 0x03 ∷ 0x30 ∷ 0x01 ∷ 0x00 ∷ 0x00 ∷ 0x00 ∷ 0x00 ∷ 0x1e ∷ 0x32
    -- 4: plain, on lines 0 and 2; hot: clock 0 ≤ 30
    ∷ 0x21 ∷ 0x00 ∷ 0x05 ∷ 0x30 ∷ 0x00 ∷ 0x01 ∷ 0x00 ∷ 0x00 ∷ 0x00 ∷ 0x1e ∷ 0x32
    -- 5: plain, on line 2; no condition; resets clock 1
    ∷ 0x21 ∷ 0x00 ∷ 0x04 ∷ 0x40 ∷ 0x02
    ∷ 0x7f ∷ []

-- Chart B, without a prechart: a load comes within 50 ticks of the opening, and a check before it or less than 20 ticks
-- later. Four lines, one clock.
abbrev pub chart_b : List ℕ
chart_b =
    0x10 ∷ 0x04 ∷ 0x01 ∷ 0x50
    -- 0: load, 0 to 1, label 1
    ∷ 0x20 ∷ 0x00 ∷ 0x01 ∷ 0x00 ∷ 0x01
    -- 1: check, 2 to 3, label 2
    ∷ 0x20 ∷ 0x02 ∷ 0x03 ∷ 0x00 ∷ 0x02
    -- 2: plain, on line 1; cold: clock 0 ≤ 50; resets clock 0
    ∷ 0x21 ∷ 0x00 ∷ 0x02 ∷ 0x30 ∷ 0x00 ∷ 0x01 ∷ 0x00 ∷ 0x00 ∷ 0x00 ∷ 0x32 ∷ 0x40 ∷ 0x01
    -- 3: plain, on lines 1 and 3; hot: clock 0 < 20
    ∷ 0x21 ∷ 0x00 ∷ 0x0a ∷ 0x30 ∷ 0x00 ∷ 0x00 ∷ 0x00 ∷ 0x00 ∷ 0x00 ∷ 0x14 ∷ 0x32
    ∷ 0x7f ∷ []

-- chart A's
abbrev pub ask : ℕ → Record
ask = sent 0 1 1

abbrev pub pass : ℕ → Record
pass = sent 1 2 2

abbrev pub answer : ℕ → Record
answer = sent 2 0 3

-- chart B's
abbrev pub load : ℕ → Record
load = sent 0 1 1

abbrev pub check : ℕ → Record
check = sent 2 3 2

-- chart D's, which is `cold_second` of the crate `witnesses`
abbrev pub press : ℕ → Record
press = sent 0 1 1

abbrev pub done : ℕ → Record
done = sent 1 0 3

-- the bytes of records with times below 256, before more of the log
abbrev pub written : Snoc Record → List ℕ → List ℕ
written ε rest = rest
written (l ▸ Message m t) rest = written l (message m.source m.destination m.label t.0 rest)
written (l ▸ Time t) rest = written l (0x02 ∷ 0 ∷ 0 ∷ 0 ∷ t.0 ∷ rest)
