use borrow.Author.Rules.{rules}
use Rattle.recording.specs.WalkSteps.{inside, tidy_there, leaf_ends}
use Rattle.recording.proofs.walk.at_leaf.Goals as goal

pub of-requires : goal.of-requires
of-requires c = inside _ _ _ _ _ _ c.requires

pub scan_leaf-found-requires : goal.scan_leaf-found-requires
scan_leaf-found-requires c = c.requires.within

pub append_left-requires : goal.append_left-requires
append_left-requires c = (search rules, search tidy_there)

pub returns : goal.returns
returns c = leaf_ends _ _ _ _ _ _ c.args.s c.scan_leaf-found.result c.of.result c.append_left.result c.requires c.of.ensures c.scan_leaf-found.ensures c.append_left.ensures
