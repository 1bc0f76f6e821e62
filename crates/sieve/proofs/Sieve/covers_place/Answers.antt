use Rattle.std.proofs.Common.{refl}
use Rattle.sieve.specs.SieveLaws.{place_covered}
use Rattle.sieve.proofs.Sieve.covers_place.Goals as goal

pub returns : goal.returns
returns c = place_covered _ c.args.entry.now _ _ c.self.invariant c.self.view_is c.words-words.result.now _ _ c.words-words.ensures.0 refl c.pass.ensures
