use Rattle.std.proofs.Common.{subst}
use Rattle.cube_words.specs.declared.words.Command.{Command}
use Rattle.cube_words.specs.Words.{IsRight}
use Rattle.cube_words.proofs.ordered.orders_with.Goals as goal

pub witness_with-requires : goal.witness_with-requires
witness_with-requires c = subst (λ (x : Command). IsRight x c.args.words.now) c.in-Witness.is c.requires

pub twin_with-requires : goal.twin_with-requires
twin_with-requires c = subst (λ (x : Command). IsRight x c.args.words.now) c.in-Twin.is c.requires

pub compact_with-requires : goal.compact_with-requires
compact_with-requires c = subst (λ (x : Command). IsRight x c.args.words.now) c.in-Compact.is c.requires

pub why_with-requires : goal.why_with-requires
why_with-requires c = subst (λ (x : Command). IsRight x c.args.words.now) c.in-Why.is c.requires

pub audit_with-requires : goal.audit_with-requires
audit_with-requires c = subst (λ (x : Command). IsRight x c.args.words.now) c.in-Audit.is c.requires

pub advise_with-requires : goal.advise_with-requires
advise_with-requires c = subst (λ (x : Command). IsRight x c.args.words.now) c.in-Advise.is c.requires

pub carry_with-requires : goal.carry_with-requires
carry_with-requires c = subst (λ (x : Command). IsRight x c.args.words.now) c.in-Carry.is c.requires
