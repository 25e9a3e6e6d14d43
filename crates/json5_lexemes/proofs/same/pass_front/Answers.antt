use Rattle.std.proofs.Common.{◌≡◌, true, false, refl, sym, arith}
use Rattle.json5_grammar.specs.Language.Characters.{is_terminator}
use Rattle.json5_lexemes.specs.SameLexemes as same
use Rattle.json5_lexemes.proofs.SameSteps.{lf_after}
use Rattle.json5_lexemes.proofs.same.pass_front.Goals as goal

pub returns-then-not-is_json5_line_terminator : goal.returns-then-not-is_json5_line_terminator
returns-then-not-is_json5_line_terminator c = let in_line : is_terminator c.args.c ≡ false = sym c.if-not-is_json5_line_terminator.ensures in record { same = λ t m go s. go in_line s; shorter = omega arith }

pub returns-then-begins_with_lf : goal.returns-then-begins_with_lf
returns-then-begins_with_lf c = record {
  same = λ t m go s. lf_after c.args.c c.args.left.now.unread c.args.right.now.unread c.if-c-eq13.true (c.if-begins_with_lf.ensures refl) s;
  shorter = omega arith;
}

pub returns-then-begins_with_star : goal.returns-then-begins_with_star
returns-then-begins_with_star c =
    let ends : is_terminator c.args.c ≡ true = sym c.if-not-is_json5_line_terminator.ensures in
    record {
      same = λ t m go s.
          same.stars_line ends
          (c.pass_line_blanks.ensures.front.left m c.args.right.now.unread
          (c.pass_line_blanks-2.ensures.front.right m c.pass_line_blanks.new.text.unread (same.front_ends (c.if-begins_with_star.ensures refl) (c.begins_with_star-then-begins_with_star.ensures t) s)));
      shorter = c.pass_line_blanks.ensures.front.shorter;
    }
