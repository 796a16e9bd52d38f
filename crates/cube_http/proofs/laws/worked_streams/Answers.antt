use Rattle.std.proofs.Common.{refl}
use Rattle.std.specs.Str.{is_utf8, chars}
use Rattle.std.proofs.Math.Utf8.{encode}
use Rattle.std.specs.Str.Lossy.{utf8_lossy, utf8_valid_len}
use Rattle.percent_encoding.specs.Percent.{percent_decode}
use Rattle.form_urlencoded.specs.Form.{split, raw_pairs}
use Rattle.httparse.specs.Grammar.{is_token_byte, trim_ows, print_request}
use Rattle.cube_http.specs.Head.{guess, is_valid, head_of}
use Rattle.cube_http.specs.Form.{first_among}
use Rattle.cube_http.specs.Checks.{body_len, check, wants_continue, closes}
use Rattle.cube_http.specs.Stream.{items, opening, head_len}
use Rattle.cube_http.proofs.laws.worked_streams.Goals as goal

pub returns-clause-areas : goal.returns-clause-areas
unfolding items opening head_len body_len check wants_continue closes guess is_valid head_of first_among is_token_byte trim_ows print_request is_utf8 chars encode utf8_lossy utf8_valid_len percent_decode split raw_pairs
returns-clause-areas c = refl

pub returns-clause-half : goal.returns-clause-half
unfolding items opening head_len body_len check wants_continue closes guess is_valid head_of first_among is_token_byte trim_ows print_request is_utf8 chars encode utf8_lossy utf8_valid_len percent_decode split raw_pairs
returns-clause-half c = refl

pub returns-clause-post : goal.returns-clause-post
unfolding items opening head_len body_len check wants_continue closes guess is_valid head_of first_among is_token_byte trim_ows print_request is_utf8 chars encode utf8_lossy utf8_valid_len percent_decode split raw_pairs
returns-clause-post c = refl

pub returns-clause-waits : goal.returns-clause-waits
unfolding items opening head_len body_len check wants_continue closes guess is_valid head_of first_among is_token_byte trim_ows print_request is_utf8 chars encode utf8_lossy utf8_valid_len percent_decode split raw_pairs
returns-clause-waits c = refl

pub returns-clause-no_host : goal.returns-clause-no_host
unfolding items opening head_len body_len check wants_continue closes guess is_valid head_of first_among is_token_byte trim_ows print_request is_utf8 chars encode utf8_lossy utf8_valid_len percent_decode split raw_pairs
returns-clause-no_host c = refl

pub returns-clause-old : goal.returns-clause-old
unfolding items opening head_len body_len check wants_continue closes guess is_valid head_of first_among is_token_byte trim_ows print_request is_utf8 chars encode utf8_lossy utf8_valid_len percent_decode split raw_pairs
returns-clause-old c = refl

pub returns-clause-chunked : goal.returns-clause-chunked
unfolding items opening head_len body_len check wants_continue closes guess is_valid head_of first_among is_token_byte trim_ows print_request is_utf8 chars encode utf8_lossy utf8_valid_len percent_decode split raw_pairs
returns-clause-chunked c = refl

pub returns-clause-large : goal.returns-clause-large
unfolding items opening head_len body_len check wants_continue closes guess is_valid head_of first_among is_token_byte trim_ows print_request is_utf8 chars encode utf8_lossy utf8_valid_len percent_decode split raw_pairs
returns-clause-large c = refl

pub returns-clause-lengthless : goal.returns-clause-lengthless
unfolding items opening head_len body_len check wants_continue closes guess is_valid head_of first_among is_token_byte trim_ows print_request is_utf8 chars encode utf8_lossy utf8_valid_len percent_decode split raw_pairs
returns-clause-lengthless c = refl

pub returns-clause-garbage : goal.returns-clause-garbage
unfolding items opening head_len body_len check wants_continue closes guess is_valid head_of first_among is_token_byte trim_ows print_request is_utf8 chars encode utf8_lossy utf8_valid_len percent_decode split raw_pairs
returns-clause-garbage c = refl

pub returns-clause-others : goal.returns-clause-others
unfolding items opening head_len body_len check wants_continue closes guess is_valid head_of first_among is_token_byte trim_ows print_request is_utf8 chars encode utf8_lossy utf8_valid_len percent_decode split raw_pairs
returns-clause-others c = refl
