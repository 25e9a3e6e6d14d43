-- Examples: numbers that are read, refused and written.
use Rattle.std.proofs.Common.{◌≡◌, ◌^◌, ◌-◌, true, false, [], refl, Some, None}
use Rattle.std.specs.Prelude.{pos, negsuc, neg_ℤ}
use lib.Chars.{codes}
use Rattle.json5_grammar.specs.Language.Numbers.{whole, decimal, finite}
use Rattle.json5_grammar.specs.Faults.Codes.{ExpectedNumber, EofParsingNumber, OverflowParsingNumber, LeadingZero}
use Rattle.json5_grammar.specs.Model.Reading.{got, bad, here, inner, word_at}
use Rattle.json5_grammar.specs.Model.ReadNumbers.{number, unsigned, hex_digits, front_of, rest_of, literal_at, judged}
use Rattle.json5_grammar.specs.Written.NumberText.{decimal_text}

minus_zero : number (codes "-0") ≡ got (whole (pos 0)) []
unfolding number unsigned
minus_zero = refl

minus_zero_point : number (codes "-0.") ≡ got (decimal (finite true [] (pos 0))) []
unfolding number unsigned front_of rest_of literal_at judged
minus_zero_point = refl

outer_zeros : number (codes "0150.") ≡ bad (Some LeadingZero) (here (codes "0150."))
unfolding number unsigned
outer_zeros = refl

normal : number (codes "150.0]") ≡ got (decimal (finite false (codes "15") (pos 1))) (codes "]")
unfolding number unsigned front_of rest_of literal_at judged
normal = refl

small : number (codes ".0025e-3,") ≡ got (decimal (finite false (codes "25") (negsuc 6))) (codes ",")
unfolding number unsigned front_of rest_of literal_at judged
small = refl

far : number (codes "+1000e32765") ≡ bad (Some OverflowParsingNumber) (here (codes "+1000e32765"))
unfolding number unsigned front_of rest_of literal_at judged
far = refl

near : number (codes "0.01E32769") ≡ got (decimal (finite false (codes "1") (pos 32767))) []
unfolding number unsigned front_of rest_of literal_at judged
near = refl

zero_far : number (codes "-0e99999999") ≡ got (decimal (finite true [] (pos 0))) []
unfolding number unsigned front_of rest_of literal_at judged
zero_far = refl

no_literal : number (codes "-1.2.3x") ≡ bad None (here (codes "-1.2.3x"))
unfolding number unsigned front_of rest_of literal_at judged
no_literal = refl

cut : number (codes "1e+") ≡ bad None (here (codes "1e+"))
unfolding number unsigned front_of rest_of literal_at judged
cut = refl

point_alone : number (codes ".") ≡ bad None (here (codes "."))
unfolding number unsigned front_of rest_of literal_at judged
point_alone = refl

sign_alone : number (codes "+") ≡ bad (Some EofParsingNumber) inner
unfolding number unsigned
sign_alone = refl

two_signs : number (codes "+-1") ≡ bad (Some ExpectedNumber) (here (codes "-1"))
unfolding number unsigned
two_signs = refl

word_cut : number (codes "-Infi") ≡ bad (Some EofParsingNumber) inner
unfolding number unsigned word_at
word_cut = refl

hex : number (codes "-0X80000000000000000000000000000000g") ≡ got (whole (neg_ℤ (pos (2 ^ 127)))) (codes "g")
unfolding number unsigned hex_digits
hex = refl

hex_past : number (codes "-0X80000000000000000000000000000001 ") ≡ bad None (here (codes "-0X80000000000000000000000000000001 "))
unfolding number unsigned hex_digits
hex_past = refl

hex_over : number (codes "-0x1000000000000000000000000000000005") ≡ bad (Some OverflowParsingNumber) (here (codes "05"))
unfolding number unsigned hex_digits
hex_over = refl

largest : number (codes "340282366920938463463374607431768211455") ≡ got (whole (pos (2 ^ 128 - 1))) []
unfolding number unsigned front_of rest_of literal_at judged
largest = refl

past_largest : number (codes "340282366920938463463374607431768211460") ≡ got (decimal (finite false (codes "34028236692093846346337460743176821146") (pos 1))) []
unfolding number unsigned front_of rest_of literal_at judged
past_largest = refl

text_up : decimal_text (finite true (codes "15") (pos 2)) ≡ codes "-1500.0"
text_up = refl

text_inner : decimal_text (finite false (codes "15") (negsuc 0)) ≡ codes "1.5"
text_inner = refl

text_small : decimal_text (finite false (codes "15") (negsuc 3)) ≡ codes "0.0015"
text_small = refl

text_edge : decimal_text (finite false (codes "15") (negsuc 1)) ≡ codes "0.15"
text_edge = refl
