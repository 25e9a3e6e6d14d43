use Rattle.std.proofs.Common.{◌≡◌, ◌≤◌, ◌∷◌, length, refl, ◌∙◌, subst}
use Rattle.json5_grammar.specs.Language.Characters.{star_sign}
use Rattle.json5_tokens.specs.Cursor.{Cursor}
use Rattle.json5_lexemes.specs.SameLexemes.{Same, Within}
use Rattle.json5_lexemes.specs.SameLexemes as same
use Rattle.json5_lexemes.proofs.same.same_block_or_stars.Goals as goal

pub returns-then-same_block : goal.returns-then-same_block
returns-then-same_block c = record { same = λ t s. same.block_begins (c.if-same_block.ensures.same refl c.args.moves s); shorter = c.same_block.ensures.shorter }

pub returns : goal.returns
returns c =
    let m = c.args.moves in
    let left : c.go_to.new.self ≡ c.args.left.now = c.go_to.ensures ∙ c.again-left_start.ensures in
    let right : c.go_to-2.new.self ≡ c.args.right.now = c.go_to-2.ensures ∙ c.again-right_start.ensures in
    record {
      same = λ t s.
          subst (λ (z : Cursor). Same m Within.slash (star_sign ∷ z.unread) (star_sign ∷ c.args.right.now.unread)) left
          (subst (λ (z : Cursor). Same m Within.slash (star_sign ∷ c.go_to.new.self.unread) (star_sign ∷ z.unread)) right
          (same.stars_begin c.if-not-moves.false (c.same_stars.ensures.same t m s)));
      shorter = subst (λ (z : Cursor). length c.same_stars.new.left.unread ≤ length z.unread) left c.same_stars.ensures.shorter;
    }
