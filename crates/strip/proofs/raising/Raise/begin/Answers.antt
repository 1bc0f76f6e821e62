use Rattle.std.proofs.Common.{◌+◌, refl, length-drop, ◌∙◌}
use Rattle.std.proofs.lemmas.List.{take_rest}
use Rattle.strip.specs.CallLaws.{walk_begun}
use Rattle.strip.proofs.raising.Raise.begin.Goals as goal

pub returns : goal.returns
returns c =
    let there = rw c.min-past.ensures at c.find_from-stop.ensures.0 in
    let rest = take_rest c.args.self.segments.words.now (c.find_from-stop.result + 1) in
    walk_begun c.args.self _ c.requires _ there c.find_from-stop.ensures.1 _ _ _ _ _ (simp (take_rest, length-drop)) refl (c.copy_from_slice.ensures.after ∙ rest) c.first_day.ensures c.value_from.ensures
