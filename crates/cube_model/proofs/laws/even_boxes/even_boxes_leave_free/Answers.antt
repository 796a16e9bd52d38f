use Rattle.cube_model.proofs.Boxes.{even_boxes_leave_free}
use Rattle.cube_model.proofs.laws.even_boxes.even_boxes_leave_free.Goals as goal

pub returns : goal.returns
returns c = even_boxes_leave_free
