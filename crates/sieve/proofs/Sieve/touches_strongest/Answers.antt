use Rattle.std.proofs.Common.{refl}
use Rattle.sieve.specs.SieveLaws.{strongest_touched}
use Rattle.sieve.proofs.Sieve.touches_strongest.Goals as goal

pub returns : goal.returns
returns c = strongest_touched _ c.args.entry.now _ _ c.self.invariant c.self.view_is c.words-words.result.now _ _ c.words-words.ensures.0 refl c.pass.ensures
