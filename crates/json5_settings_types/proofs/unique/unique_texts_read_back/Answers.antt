use Rattle.std.proofs.Common.{ap, Some, string_bytes}
use Rattle.std.proofs.lemmas.Str.{IsUtf8-string_bytes, encodes-chars}
use Rattle.json5_settings_types.proofs.ReadTypes.{unique_back}
use Rattle.json5_settings_types.proofs.unique.unique_texts_read_back.Goals as goal

pub returns : goal.returns
returns c = λ values differ. unique_back _ values (λ s. ap Some (encodes-chars (string_bytes s) (IsUtf8-string_bytes s))) differ
