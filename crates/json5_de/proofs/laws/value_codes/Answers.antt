use Rattle.json5_types.specs.ByteBufs.{bytes_of}
use Rattle.json5_types.specs.Cows.{cow_bytes, is_borrowed}
use Rattle.json5_types.specs.ValueMeanings.{value_of}
use Rattle.json5_de.specs.Convert.{every_datum, natural_below, integer_below, every_text, one_character, if_escape_free, index_of, every_cow}
use Rattle.json5_de.specs.TokenKinds.{every_tree, no_tree, escape_free_text, text_bytes, slice_bytes}
use Rattle.json5_de.proofs.TokenKinds.{tells_apart, lawful_null, lawful_bool, lawful_whole, lawful_decimal, lawful_text, lawful_bytes}
use Rattle.json5_de.proofs.TreeCodes.{tells_trees_apart}
use Rattle.json5_de.proofs.laws.value_codes.Goals as goal

pub returns-clause-null : goal.returns-clause-null
returns-clause-null c = tells_apart lawful_null (λ n. n)

pub returns-clause-boolean : goal.returns-clause-boolean
returns-clause-boolean c = tells_apart lawful_bool (λ b. b)

pub returns-clause-natural : goal.returns-clause-natural
returns-clause-natural c bound = tells_apart (lawful_whole (natural_below bound)) (λ n. n)

pub returns-clause-integer : goal.returns-clause-integer
returns-clause-integer c bound = tells_apart (lawful_whole (integer_below bound)) (λ n. n)

pub returns-clause-decimal : goal.returns-clause-decimal
returns-clause-decimal c = tells_apart lawful_decimal (λ d. d)

pub returns-clause-string : goal.returns-clause-string
returns-clause-string c = tells_apart (lawful_text every_text no_tree) text_bytes

pub returns-clause-character : goal.returns-clause-character
returns-clause-character c = tells_apart (lawful_text one_character escape_free_text) (λ c. c)

pub returns-clause-escape_free : goal.returns-clause-escape_free
returns-clause-escape_free c = tells_apart (lawful_text if_escape_free every_tree) slice_bytes

pub returns-clause-variant : goal.returns-clause-variant
returns-clause-variant c names = tells_apart (lawful_text (index_of names) escape_free_text) (λ n. n)

pub returns-clause-cow : goal.returns-clause-cow
returns-clause-cow c = tells_apart (lawful_text every_cow escape_free_text) (λ t. (cow_bytes t, is_borrowed t))

pub returns-clause-bytes : goal.returns-clause-bytes
returns-clause-bytes c = tells_apart lawful_bytes bytes_of

pub returns-clause-any : goal.returns-clause-any
returns-clause-any c = tells_trees_apart value_of every_datum no_tree
