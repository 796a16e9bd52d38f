use Rattle.std.proofs.Common.{◌≡◌}
use Rattle.form_urlencoded.specs.Parse.{raw_pairs_left}
use Rattle.cube_http.specs.Form.{first_among, first_named}
use Rattle.cube_http.proofs.form.find_value.Given as goal

abbrev pub invariant-loop-key : goal.invariant-loop-key
invariant-loop-key l =
    (goal.iterator-loop-key).can_next l.key-iterator ×
    (goal.iterator-loop-key).is_finite l.key-iterator ×
    (first_named l.fn.name l.fn.text ≡ first_among l.fn.name (raw_pairs_left l.key-iterator))
