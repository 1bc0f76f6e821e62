use borrow.Author.Rules.{rules}
use Rattle.recording.specs.RootSteps.{may_begin, may_walk_empty, from_empty, may_walk_left, from_left}
use Rattle.recording.proofs.root.from_root.Goals as goal

pub strike_at-struck-requires : goal.strike_at-struck-requires
strike_at-struck-requires c = may_begin c.args.n c.args.v c.args.t.now c.of-news.result.sieve c.args.root c.args.s c.requires.0 c.requires.1 c.of-news.ensures.question

pub walk_down-requires : goal.walk_down-requires
walk_down-requires c =
    let may = may_begin c.args.n c.args.v c.args.t.now c.of-news.result.sieve c.args.root c.args.s c.requires.0 c.requires.1 c.of-news.ensures.question in (
      rw c.of-news.ensures.gust (may_walk_empty c.args.n c.args.v c.args.root c.strike_at-struck.result c.used_at.result c.args.t.now c.strike_at-struck.new.t c.of-news.result.sieve c.args.s
          c.requires.1 may (rw c.of-news.ensures.gust at c.strike_at-struck.ensures) c.used_at.ensures c.if-used_at-eq0.true
          c.store.new.t c.empty_leaf.result c.empty_leaf.ensures c.store.ensures),
      search rules,
    )

pub returns-then-used_at-eq0 : goal.returns-then-used_at-eq0
returns-then-used_at-eq0 c =
    let may = may_begin c.args.n c.args.v c.args.t.now c.of-news.result.sieve c.args.root c.args.s c.requires.0 c.requires.1 c.of-news.ensures.question in
    from_empty c.args.n c.args.v c.args.root c.strike_at-struck.result c.used_at.result c.args.t.now c.strike_at-struck.new.t c.of-news.result.sieve c.args.s
    c.requires.1 may (rw c.of-news.ensures.gust at c.strike_at-struck.ensures) c.used_at.ensures c.if-used_at-eq0.true
    c.store.new.t c.empty_leaf.result c.empty_leaf.ensures c.store.ensures c.walk_down.new.t c.walk_down.result (rw c.of-news.ensures.gust at c.walk_down.ensures)

pub walk_down-requires-2 : goal.walk_down-requires-2
walk_down-requires-2 c =
    let may = may_begin c.args.n c.args.v c.args.t.now c.of-news.result.sieve c.args.root c.args.s c.requires.0 c.requires.1 c.of-news.ensures.question in (
      rw c.of-news.ensures.gust (may_walk_left c.args.n c.args.v c.args.root c.strike_at-struck.result c.used_at.result c.args.t.now c.strike_at-struck.new.t c.of-news.result.sieve c.args.s
          c.requires.1 may (rw c.of-news.ensures.gust at c.strike_at-struck.ensures) c.used_at.ensures c.if-used_at-eq0.false),
      search rules,
    )

pub returns : goal.returns
returns c =
    let may = may_begin c.args.n c.args.v c.args.t.now c.of-news.result.sieve c.args.root c.args.s c.requires.0 c.requires.1 c.of-news.ensures.question in
    from_left c.args.n c.args.v c.args.root c.strike_at-struck.result c.used_at.result c.args.t.now c.strike_at-struck.new.t c.of-news.result.sieve c.args.s
    c.requires.1 may (rw c.of-news.ensures.gust at c.strike_at-struck.ensures) c.used_at.ensures c.if-used_at-eq0.false
    c.walk_down-2.new.t c.walk_down-2.result (rw c.of-news.ensures.gust at c.walk_down-2.ensures)
