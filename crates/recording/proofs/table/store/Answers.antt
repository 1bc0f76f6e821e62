use Rattle.recording.specs.TableSteps.{store_in, store_out}
use borrow.Author.Rules.{rules}
use Rattle.recording.proofs.table.store.Goals as goal

pub returns-then-p-pages_in : goal.returns-then-p-pages_in
returns-then-p-pages_in c = search (rules, store_in)

pub returns-else-p-pages_in : goal.returns-else-p-pages_in
returns-else-p-pages_in c = search (rules, store_out)
