use Rattle.std.proofs.Common.{refl}
use Rattle.std.proofs.Math.Utf8.{encode}
use Rattle.std.specs.Fmt.{digits}
use Rattle.std.specs.Str.{is_utf8, chars}
use Rattle.std.specs.Str.Lossy.{utf8_lossy, utf8_valid_len}
use Rattle.percent_encoding.specs.Percent.{percent_decode}
use Rattle.form_urlencoded.specs.Form.{split, raw_pairs}
use Rattle.httparse.specs.Grammar.{is_token_byte, trim_ows, print_request}
use Rattle.cube_http.specs.Head.{guess, is_valid, head_of}
use Rattle.cube_http.specs.Form.{first_among}
use Rattle.cube_http.specs.Checks.{body_len, check, wants_continue, closes}
use Rattle.cube_http.specs.Responses.{phrase}
use Rattle.cube_http.specs.Stream.{items, opening, head_len}
use Rattle.cube_server.specs.Logs.{run_of}
use Rattle.cube_server.proofs.laws.worked_logs.Goals as goal

pub returns-clause-mixed : goal.returns-clause-mixed
unfolding run_of items opening head_len body_len check wants_continue closes guess is_valid head_of first_among is_token_byte trim_ows print_request is_utf8 chars encode utf8_lossy utf8_valid_len percent_decode split raw_pairs digits phrase
returns-clause-mixed c = refl

pub returns-clause-asked : goal.returns-clause-asked
unfolding run_of items opening head_len body_len check wants_continue closes guess is_valid head_of first_among is_token_byte trim_ows print_request is_utf8 chars encode utf8_lossy utf8_valid_len percent_decode split raw_pairs digits phrase
returns-clause-asked c = refl

pub returns-clause-torn : goal.returns-clause-torn
unfolding run_of items opening head_len body_len check wants_continue closes guess is_valid head_of first_among is_token_byte trim_ows print_request is_utf8 chars encode utf8_lossy utf8_valid_len percent_decode split raw_pairs digits phrase
returns-clause-torn c = refl

pub returns-clause-spent : goal.returns-clause-spent
unfolding run_of items opening head_len body_len check wants_continue closes guess is_valid head_of first_among is_token_byte trim_ows print_request is_utf8 chars encode utf8_lossy utf8_valid_len percent_decode split raw_pairs digits phrase
returns-clause-spent c = refl

pub returns-clause-refused : goal.returns-clause-refused
unfolding run_of items opening head_len body_len check wants_continue closes guess is_valid head_of first_among is_token_byte trim_ows print_request is_utf8 chars encode utf8_lossy utf8_valid_len percent_decode split raw_pairs digits phrase
returns-clause-refused c = refl

pub returns-clause-anew : goal.returns-clause-anew
unfolding run_of items opening head_len body_len check wants_continue closes guess is_valid head_of first_among is_token_byte trim_ows print_request is_utf8 chars encode utf8_lossy utf8_valid_len percent_decode split raw_pairs digits phrase
returns-clause-anew c = refl
