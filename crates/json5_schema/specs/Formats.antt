-- The formats of texts that are asserted (validation, section 7.3), each as an expression: the rules of the RFCs that it names.
-- A promise rests on this.
use Rattle.std.specs.Prelude.{ℕ, Bool, true, nat_eq, if◌then◌else◌, List, ◌++◌, Option, Some, None}
use Rattle.std.specs.Cmp.Lexicographic.{pointwise}
use Rattle.std.specs.Str.{encode_utf8_all}
use lib.Chars.{codes}
use Rattle.json5_schema.specs.Patterns.{matches}

-- ---- dates and times (RFC 3339, section 5.6); any minute may have a second of 60

-- a month, and a day in it
abbrev pub month_of_31 : List ℕ
month_of_31 = codes "(?:0[13578]|1[02])-(?:0[1-9]|[12][0-9]|3[01])"

abbrev pub month_of_30 : List ℕ
month_of_30 = codes "(?:0[469]|11)-(?:0[1-9]|[12][0-9]|30)"

abbrev pub february : List ℕ
february = codes "02-(?:0[1-9]|1[0-9]|2[0-8])"

-- a multiple of 4, and one of 400 if it is one of 100
abbrev pub leap_year : List ℕ
leap_year = codes "(?:[0-9]{2}(?:0[48]|[2468][048]|[13579][26])|(?:[02468][048]|[13579][26])00)"

abbrev pub full_date : List ℕ
full_date = codes "(?:[0-9]{4}-(?:" ++ month_of_31 ++ codes "|" ++ month_of_30 ++ codes "|" ++ february ++ codes ")|" ++ leap_year ++ codes "-02-29)"

abbrev pub full_time : List ℕ
full_time = codes "(?:[01][0-9]|2[0-3]):[0-5][0-9]:(?:[0-5][0-9]|60)(?:[.][0-9]+)?(?:[Zz]|[+-](?:[01][0-9]|2[0-3]):[0-5][0-9])"

-- ---- durations (RFC 3339, appendix A)

abbrev pub dur_minute : List ℕ
dur_minute = codes "[0-9]+M(?:[0-9]+S)?"

abbrev pub dur_time : List ℕ
dur_time = codes "T(?:[0-9]+H(?:" ++ dur_minute ++ codes ")?|" ++ dur_minute ++ codes "|[0-9]+S)"

abbrev pub dur_month : List ℕ
dur_month = codes "[0-9]+M(?:[0-9]+D)?"

abbrev pub dur_date : List ℕ
dur_date = codes "(?:[0-9]+D|" ++ dur_month ++ codes "|[0-9]+Y(?:" ++ dur_month ++ codes ")?)(?:" ++ dur_time ++ codes ")?"

-- ---- addresses (RFC 2673, section 3.2, and RFC 4291, section 2.2), by the grammar of RFC 3986

abbrev pub dec_octet : List ℕ
dec_octet = codes "(?:25[0-5]|2[0-4][0-9]|1[0-9][0-9]|[1-9]?[0-9])"

abbrev pub ipv4_address : List ℕ
ipv4_address = codes "(?:" ++ dec_octet ++ codes "[.]){3}" ++ dec_octet

-- 16 bits, and 32
abbrev pub h16 : List ℕ
h16 = codes "[0-9A-Fa-f]{1,4}"

abbrev pub ls32 : List ℕ
ls32 = codes "(?:" ++ h16 ++ codes ":" ++ h16 ++ codes "|" ++ ipv4_address ++ codes ")"

abbrev pub ipv6_address : List ℕ
ipv6_address = codes "(?:(?:" ++ h16 ++ codes ":){6}" ++ ls32 ++ codes "|::(?:" ++ h16 ++ codes ":){5}" ++ ls32 ++ codes "|(?:" ++ h16 ++ codes ")?::(?:" ++ h16 ++ codes ":){4}" ++ ls32 ++ codes "|(?:(?:" ++ h16 ++ codes ":)?" ++ h16 ++ codes ")?::(?:" ++ h16 ++ codes ":){3}" ++ ls32 ++ codes "|(?:(?:" ++ h16 ++ codes ":){0,2}" ++ h16 ++ codes ")?::(?:" ++ h16 ++ codes ":){2}" ++ ls32 ++ codes "|(?:(?:" ++ h16 ++ codes ":){0,3}" ++ h16 ++ codes ")?::" ++ h16 ++ codes ":" ++ ls32 ++ codes "|(?:(?:" ++ h16 ++ codes ":){0,4}" ++ h16 ++ codes ")?::" ++ ls32 ++ codes "|(?:(?:" ++ h16 ++ codes ":){0,5}" ++ h16 ++ codes ")?::" ++ h16 ++ codes "|(?:(?:" ++ h16 ++ codes ":){0,6}" ++ h16 ++ codes ")?::)"

-- ---- names of hosts (RFC 1123, section 2.1): each label has at most 63 characters, and the whole isn't counted

abbrev pub label : List ℕ
label = codes "[0-9A-Za-z](?:[0-9A-Za-z-]{0,61}[0-9A-Za-z])?"

abbrev pub host_name : List ℕ
host_name = label ++ codes "(?:[.]" ++ label ++ codes ")*"

-- ---- mailboxes (RFC 5321, section 4.1.2)

abbrev pub atoms : List ℕ
atoms = codes "[0-9A-Za-z!#$%&'*+/=?^_`{|}~-]+"

abbrev pub local_part : List ℕ
local_part = codes "(?:" ++ atoms ++ codes "(?:[.]" ++ atoms ++ codes ")*|\"(?:[ !#-Z^-~]|\\[|\\]|\\\\[ -~])*\")"

abbrev pub sub_domain : List ℕ
sub_domain = codes "[0-9A-Za-z](?:[0-9A-Za-z-]*[0-9A-Za-z])?"

abbrev pub mailbox : List ℕ
mailbox = local_part ++ codes "@(?:" ++ sub_domain ++ codes "(?:[.]" ++ sub_domain ++ codes ")*|\\[(?:" ++ ipv4_address ++ codes "|IPv6:" ++ ipv6_address ++ codes ")\\])"

-- ---- resources (RFC 3986, appendix A)

abbrev pub escaped : List ℕ
escaped = codes "%[0-9A-Fa-f]{2}"

abbrev pub segment : List ℕ
segment = codes "(?:[0-9A-Za-z._~!$&'()*+,;=:@-]|" ++ escaped ++ codes ")"

abbrev pub host : List ℕ
host = codes "(?:\\[(?:" ++ ipv6_address ++ codes "|[Vv][0-9A-Fa-f]+[.][0-9A-Za-z._~!$&'()*+,;=:-]+)\\]|(?:[0-9A-Za-z._~!$&'()*+,;=-]|" ++ escaped ++ codes ")*)"

abbrev pub authority : List ℕ
authority = codes "(?:(?:[0-9A-Za-z._~!$&'()*+,;=:-]|" ++ escaped ++ codes ")*@)?" ++ host ++ codes "(?::[0-9]*)?"

-- a fragment too
abbrev pub query : List ℕ
query = codes "(?:[0-9A-Za-z._~!$&'()*+,;=:@/?-]|" ++ escaped ++ codes ")*"

abbrev pub behind_path : List ℕ
behind_path = codes "(?:[?]" ++ query ++ codes ")?(?:#" ++ query ++ codes ")?"

-- a path that begins with a slash, also behind an authority
abbrev pub rooted : List ℕ
rooted = codes "//" ++ authority ++ codes "(?:/" ++ segment ++ codes "*)*|/(?:" ++ segment ++ codes "+(?:/" ++ segment ++ codes "*)*)?"

abbrev pub scheme : List ℕ
scheme = codes "[A-Za-z][0-9A-Za-z+.-]*:"

abbrev pub rootless : List ℕ
rootless = segment ++ codes "+(?:/" ++ segment ++ codes "*)*"

abbrev pub uri_text : List ℕ
uri_text = scheme ++ codes "(?:" ++ rooted ++ codes "|" ++ rootless ++ codes ")?" ++ behind_path

-- ---- JSON pointers (RFC 6901, section 3)

abbrev pub pointer : List ℕ
pointer = codes "(?:/(?:[^~/]|~[01])*)*"

-- ---- all of them

-- the whole text is so
abbrev pub entirely : List ℕ → List ℕ
entirely e = codes "^(?:" ++ e ++ codes ")$"

-- by the bytes of the name
abbrev pub expression_named : List ℕ → Option (List ℕ)
expression_named name =
    if pointwise nat_eq name (codes "date") then Some (entirely (full_date)) else
    if pointwise nat_eq name (codes "time") then Some (entirely (full_time)) else
    if pointwise nat_eq name (codes "date-time") then Some (entirely (full_date ++ codes "[Tt]" ++ full_time)) else
    if pointwise nat_eq name (codes "duration") then Some (entirely (codes "P(?:" ++ dur_date ++ codes "|" ++ dur_time ++ codes "|[0-9]+W)")) else
    if pointwise nat_eq name (codes "email") then Some (entirely (mailbox)) else
    if pointwise nat_eq name (codes "hostname") then Some (entirely (host_name)) else
    if pointwise nat_eq name (codes "ipv4") then Some (entirely (ipv4_address)) else
    if pointwise nat_eq name (codes "ipv6") then Some (entirely (ipv6_address)) else
    if pointwise nat_eq name (codes "uri") then Some (entirely (uri_text)) else
    if pointwise nat_eq name (codes "uuid") then Some (entirely (codes "[0-9A-Fa-f]{8}-[0-9A-Fa-f]{4}-[0-9A-Fa-f]{4}-[0-9A-Fa-f]{4}-[0-9A-Fa-f]{12}")) else
    if pointwise nat_eq name (codes "json-pointer") then Some (entirely (pointer)) else
    if pointwise nat_eq name (codes "relative-json-pointer") then Some (entirely (codes "(?:0|[1-9][0-9]*)(?:#|" ++ pointer ++ codes ")")) else
    None

abbrev pub is_spelled : Option (List ℕ) → List ℕ → Bool
is_spelled None bytes = true
is_spelled (Some e) bytes = matches e bytes

-- the text is in the format with this name, if that is one of these; both by characters
abbrev pub has_format : List ℕ → List ℕ → Bool
has_format name u = is_spelled (expression_named (encode_utf8_all name)) (encode_utf8_all u)
