-- `chart_writer::put_regions` meets its contract: one region more at each turn, the 50 with the first of the main chart.
-- Assumes nothing.
use Rattle.std.proofs.Common.{◌<◌, sym, ap, arith}
use Rattle.std.proofs.lemmas.List.{length-take}
use Rattle.std.proofs.lemmas.Grind.{common_steps}
use lib.Dec.{eqb}
use Rattle.chart_value.specs.Writer.{regions_bytes}
use Rattle.chart_writer.proofs.Laws.{ends_main, ends_next, regions_fit, terms_fit_lem, regions_next}
use Rattle.chart_writer.proofs.put_regions.Goals as goal

pub loop-i-init : goal.loop-i-init
unfolding regions_bytes
loop-i-init c = record {
  items = grind (arith, common_steps);
  ends = record { early = λ h. omega arith; most = omega arith };
}

pub append_region-requires : goal.append_region-requires
append_region-requires c =
    let I = c.loop-i.invariant in
    let e = ap (eqb c.loop-i.i) (sym c.from-prechart.ensures) in
    let p = ends_main c.loop-i.out.items c.put_flag.new.out.items _ e I.ends c.put_flag.ensures.items in
    let n = regions_fit _ c.args.accepted.now.accepted in
    let h : c.loop-i.i < c.args.accepted.now.chart.count =
    omega (arith, c.loop-i-test.true, length-take c.from.result c.args.accepted.now.chart.regions, c.from.ensures) in
    let t = terms_fit_lem _ c.args.accepted.now.accepted c.loop-i.i h in
    (omega arith, (grind (arith, common_steps, t), omega (arith, n, p.0)))

pub loop-i-preserved : goal.loop-i-preserved
loop-i-preserved c =
    let I = c.loop-i.invariant in
    let e = ap (eqb c.loop-i.i) (sym c.from-prechart.ensures) in
    let p = ends_main c.loop-i.out.items c.put_flag.new.out.items _ e I.ends c.put_flag.ensures.items in record {
      items = grind (arith, common_steps, regions_next c.args.accepted.now.chart c.loop-i.i);
      ends = ends_next p c.append_region.ensures.short;
    }
