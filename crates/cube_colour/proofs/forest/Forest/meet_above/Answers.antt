use Rattle.cube_colour.proofs.Neighbours.{read, cousins, both_above, parent_below}
use Rattle.cube_colour.proofs.forest.Forest.meet_above.Goals as goal

pub returns-then-upper-beside : goal.returns-then-upper-beside
returns-then-upper-beside c l labelled xs holds e =
    let nodes = c.self.inside.nodes.items in
    let all = c.args.self.now in
    let first = read nodes all c.args.one c.index-first.result.now c.self.view_is c.requires.one c.index-first.ensures in
    let second = read nodes all c.args.other c.index-second.result.now c.self.view_is c.requires.other c.index-second.ensures in
    let low = parent_below all c.args.one c.index-first.result.now c.requires.forest c.requires.one first in
    let high = parent_below all c.args.other c.index-second.result.now c.requires.forest c.requires.other second in
    let upper = read nodes all c.index-first.result.now.parent c.index-upper.result.now c.self.view_is low c.index-upper.ensures in
    let beside = read nodes all c.index-second.result.now.parent c.index-beside.result.now c.self.view_is high c.index-beside.ensures in
    both_above all c.requires.forest l labelled xs holds c.args.one c.args.other c.index-first.result.now c.index-second.result.now c.requires.one c.requires.other first second
    (cousins all c.requires.forest l labelled xs holds c.index-first.result.now c.index-second.result.now c.index-upper.result.now c.index-beside.result.now low high upper beside c.if-upper-beside.true e)
