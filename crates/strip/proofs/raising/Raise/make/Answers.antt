use Rattle.std.proofs.lemmas.List.{take_rest}
use Rattle.strip.specs.CallLaws.{walk_ends}
use Rattle.strip.proofs.raising.Raise.make.Goals as goal

pub returns-clause-whole : goal.returns-clause-whole
returns-clause-whole c = rw take_rest (walk_ends _ _ _ c.loop-at.invariant c.loop-at-test.false)
