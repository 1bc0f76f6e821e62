use Rattle.strip.specs.CallLaws.{clear_refused, clear_made}
use Rattle.strip.proofs.clear.Goals as goal

pub returns-then-words-ne-MOST : goal.returns-then-words-ne-MOST
returns-then-words-ne-MOST c = search clear_refused

pub returns : goal.returns
returns c = search clear_made
