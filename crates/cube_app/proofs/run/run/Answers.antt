use Rattle.std.proofs.Common.{◌∙◌, refl, sym}
use Rattle.cube_words.specs.Words.{orders_of}
use Rattle.cube_app.proofs.Ordered.{not_begun, run_as}
use Rattle.cube_app.proofs.TwinFiles.{twin_talks_are_the_same, twin_logs_are_the_same}
use Rattle.cube_app.proofs.run.run.Goals as goal

pub returns-in-Err-clause-run : goal.returns-in-Err-clause-run
returns-in-Err-clause-run g c = not_begun c.args.words.now (orders_of c.args.words.now) c.no_message-in-Err.ensures (refl, refl, refl, refl, refl)

pub returns-in_default-clause-talks : goal.returns-in_default-clause-talks
returns-in_default-clause-talks g c = twin_talks_are_the_same

pub returns-in_default-clause-logs : goal.returns-in_default-clause-logs
returns-in_default-clause-logs g c = twin_logs_are_the_same

pub returns-in-Err-clause-talks : goal.returns-in-Err-clause-talks
returns-in-Err-clause-talks g c = twin_talks_are_the_same

pub returns-in-Err-clause-logs : goal.returns-in-Err-clause-logs
returns-in-Err-clause-logs g c = twin_logs_are_the_same

pub returns-in-Ok-Err-clause-talks : goal.returns-in-Ok-Err-clause-talks
returns-in-Ok-Err-clause-talks g c = twin_talks_are_the_same

pub returns-in-Ok-Err-clause-logs : goal.returns-in-Ok-Err-clause-logs
returns-in-Ok-Err-clause-logs g c = twin_logs_are_the_same

pub returns-in-Ok-Ok-clause-talks : goal.returns-in-Ok-Ok-clause-talks
returns-in-Ok-Ok-clause-talks g c = twin_talks_are_the_same

pub returns-in-Ok-Ok-clause-logs : goal.returns-in-Ok-Ok-clause-logs
returns-in-Ok-Ok-clause-logs g c = twin_logs_are_the_same

pub returns-in-Ok-Ok-clause-run : goal.returns-in-Ok-Ok-clause-run
returns-in-Ok-Ok-clause-run g c = run_as c.args.words.now (orders_of c.args.words.now) c.in-Ok-Ok.orders (sym c.in-Ok-Ok.field-0-is ∙ c.in-Ok-Ok.ensures.orders) c.obey.ensures

pub obey-requires-clause-permits : goal.obey-requires-clause-permits
obey-requires-clause-permits g c =
    let is = sym (sym c.in-Ok-Ok.field-0-is ∙ c.in-Ok-Ok.ensures.orders) in
    rw is at c.requires.permits
