-- `lsc_test::feed_image` meets its contract: too few bytes, or one record fed for the image's chart. Assumes nothing.
use Rattle.lsc_test.proofs.Laws.{image_short, image_fed}
use mathlib.Core.Path.{refl}
use Rattle.lsc_test.proofs.feed_image.Goals as goal

pub returns-then-bytes-lt-MONITOR_SIZE : goal.returns-then-bytes-lt-MONITOR_SIZE
returns-then-bytes-lt-MONITOR_SIZE c = record {
  fed = image_short _ c.args.e c.if-bytes-lt-MONITOR_SIZE.true;
  unchanged = refl;
}

pub returns : goal.returns
returns c = record {
  fed = image_fed _ c.chart_at.ensures.value c.if-bytes-lt-MONITOR_SIZE.false c.feed_chart.ensures c.fed_number.ensures;
  unchanged = refl;
}
