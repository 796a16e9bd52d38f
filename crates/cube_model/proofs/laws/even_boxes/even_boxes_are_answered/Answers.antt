use Rattle.cube_model.proofs.Boxes.{even_boxes_are_answered}
use Rattle.cube_model.proofs.laws.even_boxes.even_boxes_are_answered.Goals as goal

pub returns : goal.returns
returns c = even_boxes_are_answered
