use Rattle.std.proofs.Common.{◌≡◌, length, rules}
use Rattle.json5_settings.proofs.Followed.{many_else, many_then}
use Rattle.json5_settings.proofs.follow.are_as_many.Goals as goal

pub returns-then-olds-news : goal.returns-then-olds-news
returns-then-olds-news c =
    let same : length c.args.olds.now ≡ length c.args.news.now = search rules in
    many_then c.args.olds.now c.args.news.now c.args.befores.now same

pub returns-else-olds-news : goal.returns-else-olds-news
returns-else-olds-news c =
    let other : length c.args.olds.now ≡ length c.args.news.now → ⊥ = search rules in
    many_else c.args.olds.now c.args.news.now c.args.befores.now other
