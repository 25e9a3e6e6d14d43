use Rattle.json5_convert.proofs.CommentsPassed.{rest_boundary, rest_fits, rest_taken}
use Rattle.json5_convert.proofs.spelled_anew.split_comment.Goals as goal

pub overflow_sub-text : goal.overflow_sub-text
overflow_sub-text c = rest_fits c.args.text.now c.in-Some.rest.now c.utf8.text c.in-Some.ensures.0 c.in-Some.ensures.1

pub split_at-requires : goal.split_at-requires
split_at-requires c = rest_boundary c.args.text.now c.in-Some.rest.now c.utf8.text c.in-Some.ensures.0 c.in-Some.ensures.1

pub returns : goal.returns
returns c = rest_taken c.args.text.now c.in-Some.rest.now c.utf8.text c.in-Some.ensures.0 c.in-Some.ensures.1 _ _ c.split_at.ensures.front c.split_at.ensures.back
