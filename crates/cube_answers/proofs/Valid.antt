-- What a valid request has.
use Rattle.std.proofs.Common.{◌≡◌, true, not, ◌&&◌, ◌||◌, length}
use Rattle.std.specs.List.{list_all}
use Rattle.std.proofs.lemmas.Bool.{and_parts, ltb-true}
use Rattle.cube_model.specs.declared.request.Request.{Request}
use Rattle.cube_model.specs.declared.request.What.{What}
use Rattle.cube_model.specs.declared.request.What.TheVariants.{Count, Measure}
use Rattle.cube_model.specs.Dims.{Dims, plains}
use Rattle.cube_model.specs.Requests.{fits, is_grouped, is_one}
use Rattle.cube_query.specs.Canonical.{is_request, is_there}
use Rattle.cube_answers.specs.AnswerText.{IsThere}

there_is : (s : Dims) (what : What) → is_there s what ≡ true → IsThere s what
there_is s Count e = tt
there_is s (Measure m) e = ltb-true m (length s.measures) e

both : (s : Dims) (r : Request) → is_request s r ≡ true → (fits (plains s) r.group r.picks && is_there s r.what) ≡ true
unfolding is_request
both s r e = (and_parts (fits (plains s) r.group r.picks && is_there s r.what) (not (is_grouped (plains s) r.group) || list_all is_one r.picks) e).0

pub valid_fits : (s : Dims) (r : Request) → is_request s r ≡ true → fits (plains s) r.group r.picks ≡ true
valid_fits s r e = (and_parts (fits (plains s) r.group r.picks) (is_there s r.what) (both s r e)).0

pub valid_measure : (s : Dims) (r : Request) → is_request s r ≡ true → IsThere s r.what
valid_measure s r e = there_is s r.what (and_parts (fits (plains s) r.group r.picks) (is_there s r.what) (both s r e)).1
