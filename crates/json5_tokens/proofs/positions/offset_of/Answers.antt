use Rattle.std.proofs.Common.{◌≡◌, ◌+◌, ◌++◌, ◌==◌, true, false, IsUtf8, sym, ◌∙◌, subst, rules}
use Rattle.std.specs.Prelude.{IsTrue}
use Rattle.std.specs.Char.{encode_utf8, len_utf8}
use Rattle.std.specs.Str.Iter.{chars_rest}
use Rattle.json5_grammar.specs.Model.PositionSteps.{position_step}
use Rattle.json5_tokens.proofs.PositionsReached.{Walk, text_start, walk_start, walk_step, walk_passed, walk_ended, walk_missed}
use Rattle.json5_tokens.proofs.positions.offset_of.Goals as goal

pub loop-c-init : goal.loop-c-init
loop-c-init c =
    let utf8 : IsUtf8 c.args.text.now = search rules in
    let same : chars_rest c.into_iter-c-iterator.result ≡ c.args.text.now = search rules in
    subst (λ z. Walk c.args.text.now c.args.wanted z text_start false 0) (sym same) (walk_start c.args.text.now c.args.wanted utf8)

pub returns-then-is_passed : goal.returns-then-is_passed
returns-then-is_passed c =
    let l = c.loop-c in
    let yes : IsTrue c.is_passed.result = search rules in
    let moves : position_step l.position l.is_after_cr c.in-Some.c ≡ l.position → ⊥ = λ same. c.is_passed.ensures.moves yes (c.stepped-next.ensures ∙ same) in
    walk_passed c.args.text.now c.args.wanted (chars_rest l.c-iterator) (chars_rest c.next.new.self) l.position l.is_after_cr l.offset c.in-Some.c (c.is_passed.ensures.found yes) moves
    c.in-Some.ensures.steps.0 l.invariant

pub loop-c-preserved : goal.loop-c-preserved
loop-c-preserved c =
    let l = c.loop-c in
    let next = c.stepped-next.result in
    let split : chars_rest l.c-iterator ≡ encode_utf8 c.in-Some.c ++ chars_rest c.next.new.self = c.in-Some.ensures.steps.0 in
    let no : c.is_passed.result ≡ false = search rules in
    let moved : next ≡ position_step l.position l.is_after_cr c.in-Some.c = c.stepped-next.ensures in
    let width : c.len_utf8-offset.result ≡ len_utf8 c.in-Some.c = search rules in
    let stays : l.position ≡ c.args.wanted → position_step l.position l.is_after_cr c.in-Some.c ≡ l.position = λ same. sym moved ∙ c.is_passed.ensures.passed no same in
    let walked = walk_step c.args.text.now c.args.wanted (chars_rest l.c-iterator) (chars_rest c.next.new.self) l.position l.is_after_cr l.offset c.in-Some.c stays split l.invariant in
    subst (λ p. Walk c.args.text.now c.args.wanted (chars_rest c.next.new.self) p (c.in-Some.c == 13) (l.offset + c.len_utf8-offset.result)) (sym moved)
    (subst (λ k. Walk c.args.text.now c.args.wanted (chars_rest c.next.new.self) (position_step l.position l.is_after_cr c.in-Some.c) (c.in-Some.c == 13) (l.offset + k)) (sym width) walked)

pub returns-then-is_same : goal.returns-then-is_same
returns-then-is_same c =
    let l = c.loop-c in
    walk_ended c.args.text.now c.args.wanted (chars_rest l.c-iterator) l.position l.is_after_cr l.offset (c.is_same.ensures.0 c.if-is_same.true) c.in-None.ensures.steps.0.0 l.invariant

pub returns-else-is_same : goal.returns-else-is_same
returns-else-is_same c =
    let l = c.loop-c in
    let differ : l.position ≡ c.args.wanted → ⊥ = λ same. let yes : IsTrue c.is_same.result = c.is_same.ensures.1 same in let no : true ≡ false = sym yes ∙ c.if-is_same.false in absurd (cc) in
    walk_missed c.args.text.now c.args.wanted (chars_rest l.c-iterator) l.position l.is_after_cr l.offset differ c.in-None.ensures.steps.0.0 l.invariant
