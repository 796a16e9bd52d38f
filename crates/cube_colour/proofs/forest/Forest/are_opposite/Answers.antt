use Rattle.std.proofs.Common.{arith}
use Rattle.std.proofs.lemmas.Int.{ints}
use Rattle.cube_colour.proofs.Neighbours.{read, siblings, below}
use Rattle.cube_colour.proofs.forest.Forest.are_opposite.Goals as goal

pub returns-then-first-second : goal.returns-then-first-second
returns-then-first-second c l labelled xs holds e =
    let nodes = c.self.inside.nodes.items in
    let first = read nodes c.args.self.now c.args.one c.index-first.result.now c.self.view_is c.requires.one c.index-first.ensures in
    let second = read nodes c.args.self.now c.args.other c.index-second.result.now c.self.view_is c.requires.other c.index-second.ensures in
    siblings c.args.self.now c.requires.forest l labelled xs holds c.args.one c.args.other c.index-first.result.now c.index-second.result.now c.requires.one c.requires.other first second c.if-first-second.true e

pub returns-then-first-other : goal.returns-then-first-other
returns-then-first-other c l labelled xs holds e =
    let first = read c.self.inside.nodes.items c.args.self.now c.args.one c.index-first.result.now c.self.view_is c.requires.one c.index-first.ensures in
    below c.args.self.now c.requires.forest l labelled xs holds c.args.one c.args.other c.index-first.result.now c.requires.one first c.if-first-other.true e

pub returns-then-second-one : goal.returns-then-second-one
returns-then-second-one c l labelled xs holds e =
    let second = read c.self.inside.nodes.items c.args.self.now c.args.other c.index-second.result.now c.self.view_is c.requires.other c.index-second.ensures in
    let tied = below c.args.self.now c.requires.forest l labelled xs holds c.args.other c.args.one c.index-second.result.now c.requires.other second c.if-second-one.true e in
    omega (arith, ints, tied)
