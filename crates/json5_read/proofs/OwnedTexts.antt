-- Owned copies of the texts of keys.
use Rattle.std.proofs.Common.{◌≡◌, ℕ, List, sym, subst, Option, Some, None, String}
use Rattle.std.specs.declared.alloc.Global.{Global}
use Rattle.json5_types.specs.declared.error.Error.{Error}
use Rattle.json5_tokens.specs.declared.short_texts.Span.{Span}
use Rattle.json5_tokens.specs.declared.text_token.TextToken.{TextToken}
use Rattle.json5_tokens.specs.declared.text_token.TextToken.TheVariants as token
use Rattle.json5_tokens.specs.TextTokens.{Spells}
use Rattle.json5_read.specs.OwnedReads.{OwnsKey, OwnsText}
use Rattle.json5_read.specs.ModelSteps.{answered}

pub owned_span : (input : List ℕ) (key : TextToken) (span : Span) (o : Option (String Global)) (e : Error) → key ≡ token.EscapeFree span → OwnsText input span (answered o e) → OwnsKey input key (answered o e)
owned_span input key span o e is owns = subst (λ k. OwnsKey input k (answered o e)) (sym is) (by_case o owns)
  where
    by_case : (o : Option (String Global)) → OwnsText input span (answered o e) → OwnsKey input (token.EscapeFree span) (answered o e)
    by_case (Some text) copied u escape_free k = copied u k.1
    by_case None lacks u escape_free k = lacks

pub owned_text : (input : List ℕ) (key : TextToken) (text : String Global) (e : Error) → key ≡ token.Escaped text → OwnsKey input key (answered (Some text) e)
owned_text input key text e is u escape_free k = (subst (λ z. Spells input u escape_free z) is k).1
