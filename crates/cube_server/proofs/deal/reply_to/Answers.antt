use Rattle.std.proofs.Common.{ap, [], ◌∷◌}
use Rattle.cube_server.proofs.Dealt.{asked_deals, constant_deals}
use Rattle.cube_server.proofs.Enduring.{endures_none, endures_answer}
use Rattle.cube_server.proofs.deal.reply_to.Goals as goal

pub returns-in-Asked-clause-does : goal.returns-in-Asked-clause-does
returns-in-Asked-clause-does g c =
    let x = c.answer.ensures in
    let a = x.answered in (
      record { ask = c.in-Asked.ask; outcome = a.outcome } ∷ [],
      endures_answer c.in-Asked.ask c.answer.result _ _ (record {
        answered = a;
        manner = x.manner;
        capacity = x.capacity;
        told = x.told;
        names = x.names;
        memory = λ e. ap g.S.Store.state (x.memory e);
        calls = x.calls;
        within_stays = x.within_stays;
        exact_stays = x.exact_stays;
        passed = x.passed;
        within = x.within;
        exact = x.exact;
        in_hand = x.in_hand;
        others = x.others;
      }),
      rw c.in-Asked.is (λ q n log log' live s. asked_deals n q c.in-Asked.ask a.outcome c.answer.result _ _ log log' live a.added a.replied a.moved x.capacity (λ is. (a.failed is).1) s),
    )

pub returns-in-Constant-clause-does : goal.returns-in-Constant-clause-does
returns-in-Constant-clause-does g c = ([], endures_none _, rw c.in-Constant.is (λ q n log log' live s. constant_deals n q c.in-Constant.fixed _ log log' live s))
