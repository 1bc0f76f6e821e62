use Rattle.std.proofs.Common.{◌∙◌}
use borrow.Author.Rules.{rules}
use Rattle.recording.specs.WalkSteps.{inside, index_covered, may_strike_child, may_go_down, may_come_back, came_back_lem}
use Rattle.recording.proofs.walk.+walk_down.Goals as goal

pub of-page-requires : goal.of-page-requires
of-page-requires t c = inside _ _ _ _ _ _ c.requires.0

pub scan_index-found-requires : goal.scan_index-found-requires
scan_index-found-requires t c = c.requires.0.within

pub returns-then-found : goal.returns-then-found
returns-then-found t c =
    index_covered c.args.n c.args.news.now.gust c.args.p c.args.struck c.args.t.now c.args.news.now.sieve c.args.s c.scan_index-found.result c.of-page.result
    c.requires.0 c.if-n-eq0.false c.of-page.ensures c.scan_index-found.ensures c.if-found.true

pub strike_at-more-requires : goal.strike_at-more-requires
strike_at-more-requires t c =
    may_strike_child c.args.n c.args.news.now.gust c.args.p c.args.struck c.args.t.now c.args.news.now.sieve c.args.s c.scan_index-found.result c.of-page.result
    c.requires.0 c.if-n-eq0.false c.of-page.ensures c.scan_index-found.ensures c.choose_at-i.result c.from-child.result c.if-found.false c.choose_at-i.ensures (c.from-child.ensures ∙ c.child_lying.ensures)

pub walk_down-lower-requires : goal.walk_down-lower-requires
walk_down-lower-requires t c = (
  search rules,
  (
    may_go_down c.args.n c.args.news.now.gust c.args.p c.args.struck c.args.t.now c.args.news.now.sieve c.args.s c.scan_index-found.result c.of-page.result
        c.requires.0 c.if-n-eq0.false c.of-page.ensures c.scan_index-found.ensures c.choose_at-i.result c.from-child.result c.if-found.false c.choose_at-i.ensures (c.from-child.ensures ∙ c.child_lying.ensures)
        c.strike_at-more.result c.strike_at-more.new.t c.strike_at-more.ensures,
    search rules,
  ),
)

pub come_back-requires : goal.come_back-requires
come_back-requires t c =
    may_come_back c.args.n c.args.news.now.gust c.args.p c.args.struck c.args.t.now c.args.news.now.sieve c.args.s c.scan_index-found.result c.of-page.result
    c.requires.0 c.if-n-eq0.false c.of-page.ensures c.scan_index-found.ensures c.choose_at-i.result c.from-child.result c.if-found.false c.choose_at-i.ensures (c.from-child.ensures ∙ c.child_lying.ensures)
    c.strike_at-more.result c.strike_at-more.new.t c.strike_at-more.ensures c.more_struck.result c.walk_down-lower.new.t c.walk_down-lower.result
    c.more_struck.ensures c.walk_down-lower.ensures c.requires.1

pub returns : goal.returns
returns t c =
    came_back_lem c.args.n c.args.news.now.gust c.args.p c.args.struck c.args.t.now c.args.news.now.sieve c.args.s c.scan_index-found.result c.of-page.result
    c.requires.0 c.if-n-eq0.false c.of-page.ensures c.scan_index-found.ensures c.choose_at-i.result c.from-child.result c.if-found.false c.choose_at-i.ensures (c.from-child.ensures ∙ c.child_lying.ensures)
    c.strike_at-more.result c.strike_at-more.new.t c.strike_at-more.ensures c.more_struck.result c.walk_down-lower.new.t c.walk_down-lower.result
    c.more_struck.ensures c.walk_down-lower.ensures
    c.come_back.new.t c.come_back.result c.come_back.ensures
