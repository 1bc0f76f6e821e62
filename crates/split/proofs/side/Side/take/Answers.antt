use mathlib.Core.Path.{◌≡◌, ap, ◌∙◌}
use Rattle.split.specs.Split.{Group, takes}
use Rattle.split.proofs.side.Side.take.Goals as goal

pub returns : goal.returns
unfolding takes
returns c =
    let i = c.args.i in
    let made : ◌≡◌ {A = Group} (record { members = c.push.new.self; cover = c.join-self-inside.result }) (takes c.args.boxes.now (record { members = c.self.inside.members; cover = c.self.inside.cover }) i) =
    λ k. record { members = c.push.ensures k; cover = c.join-self-inside.ensures k } in
    made ∙ ap (λ (g : Group). takes c.args.boxes.now g i) c.self.view_is
