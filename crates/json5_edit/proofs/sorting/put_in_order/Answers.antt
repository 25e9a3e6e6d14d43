use Rattle.std.proofs.Common.{rules, is_lt}
use Rattle.std.specs.Cmp.Lexicographic.{nat_list_cmp_total}
use Rattle.std.proofs.lemmas.List.Sorted.{ranks_by}
use Rattle.std.proofs.lemmas.Fn.{always_returns_same}
use Rattle.json5_edit.specs.Sorted.{entry_key, text_cmp}
use Rattle.json5_edit.proofs.sorting.put_in_order.Goals as goal

pub returns : goal.returns
returns c =
    let strict = ranks_by nat_list_cmp_total entry_key in (
      c.in_ok-sort_by.ensures.sorted (λ a b. is_lt (text_cmp (entry_key a) (entry_key b))) strict (always_returns_same _ _ _ (λ a r f k. search rules)),
      c.in_ok-sort_by.ensures.stable (λ a b. is_lt (text_cmp (entry_key a) (entry_key b))) strict (always_returns_same _ _ _ (λ a r f k. search rules)),
    )
