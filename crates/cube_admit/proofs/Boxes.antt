-- The verdict on an even box of a full core.
use Rattle.std.proofs.Common.{◌≡◌, ◌≤◌, ◌⊎◌, inl, inr, Bool, List, length, ap, ◌∙◌, arith, Result, Ok, Err, IfOk}
use Rattle.cube_model.specs.declared.entry.Entry.{Entry}
use Rattle.cube_model.specs.declared.memory.NoMemory.{NoMemory}
use Rattle.cube_model.specs.declared.policy.Policy.{Policy}
use Rattle.cube_model.specs.declared.request.Request.{Request}
use Rattle.cube_model.specs.declared.verdict.Verdict.{Verdict}
use Rattle.cube_model.specs.declared.verdict.Verdict.TheVariants.{Answer, Full}
use Rattle.cube_model.specs.Cores.{Core, IsCore, shown, world}
use Rattle.cube_model.specs.Policies.{IsPolicy}
use Rattle.cube_model.specs.Entries.{requests}
use Rattle.cube_model.specs.Verdicts.{most_held, verdict}
use Rattle.cube_model.proofs.Boxes.{even_boxes_are_answered}
use Rattle.cube_model.proofs.Filled.{cores_are_worlds}
use Rattle.cube_admit.specs.Boxes.{AnswersEvenBoxes}

box_answered : (c : Core) (p : Policy) (h : List Entry) (r : Request) (v : Verdict) → IsCore c → IsPolicy c.dims p → v ≡ verdict (shown c p) h r → AnswersEvenBoxes (shown c p) h r v
box_answered c p h r v ok rules e m q way full boxes box few = pick (even_boxes_are_answered (world c p) h r m (cores_are_worlds c p ok rules.methods) way full boxes box q)
  where
    pick : ((fresh : Bool) × (verdict (shown c p) h r ≡ Answer fresh)) ⊎ ((verdict (shown c p) h r ≡ Full (length (requests h))) × (most_held ≤ length (requests h))) → (fresh : Bool) × (v ≡ Answer fresh)
    pick (inl a) = (a.0, e ∙ a.1)
    pick (inr a) = let long : most_held ≤ length (requests h) = a.1 in absurd (omega (arith, few, long))

-- the same of a verdict that was given behind an equal history
pub boxes_answered : (c : Core) (p : Policy) (h k : List Entry) (r : Request) (result : Result Verdict NoMemory) → IsCore c → IsPolicy c.dims p → k ≡ h → IfOk result (λ v. v ≡ verdict (shown c p) k r) → IfOk result (λ v. AnswersEvenBoxes (shown c p) h r v)
boxes_answered c p h k r (Ok v) ok rules s e = box_answered c p h r v ok rules (e ∙ ap (λ (hs : List Entry). verdict (shown c p) hs r) s)
boxes_answered c p h k r (Err x) ok rules s e = tt
