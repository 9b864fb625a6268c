-- From the printing program's input to what it prints (P1 to P5).
use Rattle.std.specs.Prelude.{ℕ, ◌+◌, ◌-◌, cond, List, length, take, drop, eqb, ltb, Result, Ok, Err}
use Rattle.wire.specs.Bytes.{word16}
use Rattle.wire.specs.Writing.{in_room}
use Rattle.chart_reader.specs.Said as read
use Rattle.chart_reader.specs.Read.{read_chart}
use Rattle.judge.specs.Said as judge
use Rattle.judge.specs.Judge.{judge_of}
use Rattle.listing.specs.Listing.{Report, listing_of, refused, room}
use Rattle.listing.specs.declared.Part.TheVariants.{Input, Chart, Log}
use Rattle.respond.specs.declared.TooShort.{TooShort}

-- J: the log's refusal, or the verdict
abbrev pub log_report : judge.Said → Report
log_report said = cond (eqb said.number 0) (Ok said.verdict) (refused Log said.number said.offset)

-- R: the chart's refusal, or what judging says
abbrev pub chart_report : read.Said → List ℕ → Report
chart_report said log =
    cond (eqb said.number 0) (log_report (judge_of said.chart log)) (refused Chart said.number said.offset)

unfoldable pub parts_report : List ℕ → List ℕ → Report
parts_report chart log = chart_report (read_chart chart) log

abbrev pub most_input : ℕ
most_input = 65536

abbrev pub length_size : ℕ
length_size = 2

-- P3, P4: the input is too long, or it is not a length with that many bytes after it
abbrev pub too_long : ℕ
too_long = 40

abbrev pub no_frame : ℕ
no_frame = 41

-- P2: these two, then what the chart and the log are refused for
unfoldable pub report_of : List ℕ → Report
report_of s =
    cond (ltb most_input (length s)) (refused Input too_long 0)
    (cond (ltb (length s) length_size) (refused Input no_frame 0)
    (cond (ltb (length s - length_size) (word16 s 0)) (refused Input no_frame 0)
    (parts_report (take (word16 s 0) (drop length_size s)) (drop (length_size + word16 s 0) s))))

-- what is printed for an input
abbrev pub text_of : List ℕ → List ℕ
text_of s = listing_of (report_of s)

-- what respond answers: the number of bytes written, or that the buffer may be too short
abbrev pub Response : Type 0
Response = Result ℕ TooShort

-- P12: a buffer that may be too short for some listing is refused, and stays as it was
abbrev pub response_of : ℕ → List ℕ → Response
response_of size text = cond (ltb size room) (Err (record {})) (Ok (length text))

abbrev pub buffer_after : List ℕ → List ℕ → List ℕ
buffer_after buffer text = in_room room text buffer

-- the number of bytes written
abbrev pub count_of : Response → ℕ
count_of (Ok n) = n
count_of (Err e) = 0
