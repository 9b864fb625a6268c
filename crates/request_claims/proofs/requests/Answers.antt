use Rattle.request_claims.proofs.Besides.{breaks_judged, breaks_refused}
use Rattle.save_claims.proofs.Saving.{saved_read, bytes_tell}
use Rattle.request_claims.proofs.Marking.{fed_alike, judged_alike}
use Rattle.request_claims.proofs.requests.Goals as goal

pub returns : goal.returns
returns c = record {
  breaks_judged = breaks_judged;
  breaks_refused = breaks_refused;
  saved_read = saved_read;
  bytes_tell = bytes_tell;
  marks_fed = fed_alike;
  marks_judged = judged_alike;
}
