use Rattle.std.proofs.Common.{◌≡◌, ◌+◌, ◌-◌, List, ℕ, [], ◌∷◌, drop, ap, sym, ◌∙◌, subst, refl, arith}
use Rattle.std.specs.Str.{chars, IsCharBoundary}
use Rattle.json5_tokens.specs.Outcome.{bytes_in}
use Rattle.json5_tokens.specs.Cursor.{Cursor}
use Rattle.json5_tokens.proofs.TextCuts.{next_is, next_left, cut_left, drop_left, whole_split}
use Rattle.json5_tokens.proofs.scanner.Scanner.eat.Goals as goal

pub overflow_add-self : goal.overflow_add-self
overflow_add-self g c =
    let rest : List ℕ = drop 1 c.args.self.now.unread in
    let e = ap (λ (s : Cursor). s.unread) c.self.view_is ∙ next_is c.args.self.now.unread c.args.c _ _ c.peek.ensures c.ne.ensures c.if-ne.false in
    let left = next_left c.args.c rest c.self.invariant e in
    omega (arith, left, c.len_utf8.ensures.value, c.self.ranges.1.0.1)

pub invariant_of-self : goal.invariant_of-self
invariant_of-self g c =
    let rest : List ℕ = drop 1 c.args.self.now.unread in
    let e = ap (λ (s : Cursor). s.unread) c.self.view_is ∙ next_is c.args.self.now.unread c.args.c _ _ c.peek.ensures c.ne.ensures c.if-ne.false in
    let left : c.self.inside.offset + c.len_utf8.result ≡ c.self.inside.end - bytes_in rest = ap (λ n. c.self.inside.offset + n) c.len_utf8.ensures.value ∙ next_left c.args.c rest c.self.invariant e in
    record {
      is_text = c.self.invariant.is_text;
      counted = c.self.invariant.counted;
      cut = subst (λ n. IsCharBoundary (g.I.Input.text c.self.inside.input) n) (sym left) (cut_left _ rest c.self.invariant (whole_split (c.args.c ∷ []) rest c.self.invariant e) refl);
    }

pub returns-clause-taken : goal.returns-clause-taken
returns-clause-taken g c = λ t.
    let rest : List ℕ = drop 1 c.args.self.now.unread in
    let next = next_is c.args.self.now.unread c.args.c _ _ c.peek.ensures c.ne.ensures c.if-ne.false in
    let e = ap (λ (s : Cursor). s.unread) c.self.view_is ∙ next in
    let left : c.self.inside.offset + c.len_utf8.result ≡ c.self.inside.end - bytes_in rest = ap (λ n. c.self.inside.offset + n) c.len_utf8.ensures.value ∙ next_left c.args.c rest c.self.invariant e in
    let unread : chars (drop (c.self.inside.offset + c.len_utf8.result) (g.I.Input.text c.self.inside.input)) ≡ rest =
    ap (λ n. chars (drop n (g.I.Input.text c.self.inside.input))) left ∙ drop_left _ rest c.self.invariant (whole_split (c.args.c ∷ []) rest c.self.invariant e) refl in
    record { split = next ∙ ap (λ z. c.args.c ∷ z) (sym unread); same = ap (λ (s : Cursor). s.input) c.self.view_is }
