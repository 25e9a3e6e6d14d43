-- The texts of addresses are those of the grammar.
use Rattle.std.proofs.Common.{◌≡◌, ◌∙◌, ℕ, false, List, [], ◌∷◌, Option, Some, None, length, refl, sym, ap, subst, arith, lit≤, append-nil}
use Rattle.std.specs.Prelude.{Result, Ok, Err, option_map, ◌==◌}
use Rattle.std.specs.Result.{result_ok}
use Rattle.std.proofs.lemmas.Bool.Decides.{nat_tests}
use Rattle.std.specs.declared.net.ip_addr.IpAddr.{IpAddr}
use Rattle.std.specs.declared.net.ip_addr.IpAddr.TheVariants as Ip
use Rattle.std.specs.declared.net.socket_addr.SocketAddr.{SocketAddr}
use Rattle.std.specs.declared.net.socket_addr.SocketAddr.TheVariants as Socket
use Rattle.std.specs.Net.Grammar.{Parses, IsDotted, IsColonHex, IsIpText, IsSocketText, IsSocketV4Text, IsSocketV6Text}
use Rattle.std.specs.Net.Reader.{Read, read_ipv4, read_ipv6, read_socket_v4, read_socket_v6, v6_parts, whole_value}
use Rattle.std.proofs.NetLemmas.Ipv4.{read_ipv4_complete, read_ipv4_sound}
use Rattle.std.proofs.NetLemmas.Ipv6.{read_ipv6_complete, read_ipv6_sound, EndsGroups-nil, IsDotted-not_colon_hex}
use Rattle.std.proofs.NetLemmas.Sockets.{read_socket_v4_complete, read_socket_v4_sound, read_socket_v6_complete, read_socket_v6_sound, IsSocketV4Text-not_v6}
use Rattle.json5_de.specs.ConvertLists.{if_some}
use Rattle.json5_settings_types.specs.Addresses.{either_of, ip_of, socket_of, v4_of, v6_of, socket_v4_of, socket_v6_of}

-- what was read whole left nothing
whole_left : {A : Type 0} (r : Read A) (a : A) → whole_value r ≡ Some a → r ≡ Some (a, [])
whole_left None a is = absurd (cc)
whole_left (Some (b, [])) a is = cc
whole_left (Some (b, c ∷ cs)) a is = let no : (length (c ∷ cs) == 0) ≡ false = grind (arith, nat_tests) in absurd (let h = rw no at is in cc)

-- a value is one of the first kind, or of the second where there is none of the first
first_or_second : {A B C : Type 0} (f : A → C) (g : B → C) (x : Option A) (y : Option B) (c : C) (P : Type 0) → either_of (option_map f x) (option_map g y) ≡ Some c → ((a : A) → x ≡ Some a → f a ≡ c → P) → ((b : B) → y ≡ Some b → g b ≡ c → P) → P
first_or_second f g (Some a) y c P is left right = left a refl cc
first_or_second f g None (Some b) c P is left right = right b refl cc
first_or_second f g None None c P is left right = absurd (cc)

no_first : {A B C : Type 0} (f : A → C) (g : B → C) (x : Option A) (y : Option B) (b : B) → ((a : A) → x ≡ Some a → ⊥) → y ≡ Some b → either_of (option_map f x) (option_map g y) ≡ Some (g b)
no_first f g (Some a) y b none is = absurd (none a refl)
no_first f g None (Some b') b none is = cc
no_first f g None None b none is = absurd (cc)

-- ---- addresses

dotted : (t o : List ℕ) → whole_value (read_ipv4 t) ≡ Some o → IsDotted t o
dotted t o is = let (front, split, spells) = read_ipv4_sound t o [] (whole_left (read_ipv4 t) o is) in subst (λ x. IsDotted x o) (sym (split ∙ append-nil front)) spells

colon_hex : (t s : List ℕ) → whole_value (read_ipv6 t) ≡ Some s → IsColonHex t s
colon_hex t s is = let (front, split, spells) = read_ipv6_sound t s [] (whole_left (read_ipv6 t) s is) in subst (λ x. IsColonHex x s) (sym (split ∙ append-nil front)) spells

pub is_ip : (t : List ℕ) (a : IpAddr) → ip_of t ≡ Some a → IsIpText t a
is_ip t a is = first_or_second (λ o. Ip.V4 (v4_of o)) (λ s. Ip.V6 (v6_of s)) (whole_value (read_ipv4 t)) (whole_value (read_ipv6 t)) a (IsIpText t a) is
    (λ o e same. subst (IsIpText t) same (dotted t o e))
    (λ s e same. subst (IsIpText t) same (colon_hex t s e))

pub reads_ip : (t : List ℕ) (a : IpAddr) → IsIpText t a → ip_of t ≡ Some a
reads_ip t (Ip.V4 a) h = let read = ap read_ipv4 (sym (append-nil t)) ∙ read_ipv4_complete t _ [] h (lit≤ tt) in rw read refl
reads_ip t (Ip.V6 a) h =
    let read = ap read_ipv6 (sym (append-nil t)) ∙ read_ipv6_complete t _ [] h EndsGroups-nil in
    no_first (λ o. Ip.V4 (v4_of o)) (λ s. Ip.V6 (v6_of s)) (whole_value (read_ipv4 t)) (whole_value (read_ipv6 t)) a.segments (λ o e. IsDotted-not_colon_hex t o _ (dotted t o e) h) (ap whole_value read)

-- ---- with a port

socket_v4 : (t : List ℕ) (p : List ℕ × ℕ) → whole_value (read_socket_v4 t) ≡ Some p → IsSocketV4Text t (socket_v4_of p)
socket_v4 t p is = let (front, split, spells) = read_socket_v4_sound t [] (socket_v4_of p) (whole_left (read_socket_v4 t) p is) in subst (λ x. IsSocketV4Text x (socket_v4_of p)) (sym (split ∙ append-nil front)) spells

socket_v6 : (t : List ℕ) (p : List ℕ × ℕ × ℕ × ℕ) → whole_value (read_socket_v6 t) ≡ Some p → IsSocketV6Text t (socket_v6_of p)
socket_v6 t p is = let (front, split, spells) = read_socket_v6_sound t [] (socket_v6_of p) (whole_left (read_socket_v6 t) p is) in subst (λ x. IsSocketV6Text x (socket_v6_of p)) (sym (split ∙ append-nil front)) spells

pub is_socket : (t : List ℕ) (a : SocketAddr) → socket_of t ≡ Some a → IsSocketText t a
is_socket t a is = first_or_second (λ p. Socket.V4 (socket_v4_of p)) (λ p. Socket.V6 (socket_v6_of p)) (whole_value (read_socket_v4 t)) (whole_value (read_socket_v6 t)) a (IsSocketText t a) is
    (λ p e same. subst (IsSocketText t) same (socket_v4 t p e))
    (λ p e same. subst (IsSocketText t) same (socket_v6 t p e))

pub reads_socket : (t : List ℕ) (a : SocketAddr) → IsSocketText t a → socket_of t ≡ Some a
reads_socket t (Socket.V4 a) h = rw (read_socket_v4_complete t a h) refl
reads_socket t (Socket.V6 a) h =
    no_first (λ p. Socket.V4 (socket_v4_of p)) (λ p. Socket.V6 (socket_v6_of p)) (whole_value (read_socket_v4 t)) (whole_value (read_socket_v6 t)) (v6_parts a) (λ p e. IsSocketV4Text-not_v6 t (socket_v4_of p) a (socket_v4 t p e) h) (ap whole_value (read_socket_v6_complete t a h))

-- ---- what `parse` gives

module _ {A : Type 0} (Spells : List ℕ → A → Type 0) (of : List ℕ → Option A) (is_of : (t : List ℕ) (a : A) → of t ≡ Some a → Spells t a) (reads : (t : List ℕ) (a : A) → Spells t a → of t ≡ Some a) (t : List ℕ) where
  none_of : (o : Option A) → of t ≡ o → ((a : A) → ¬ (Spells t a)) → None ≡ o
  none_of None is none = refl
  none_of (Some a) is none = absurd (none a (is_of t a is))

  pub parsed : {E : Type 0} (r : Result A E) → Parses Spells t r → if_some (λ a. a) (result_ok r) ≡ of t
  parsed (Ok a) spells = sym (reads t a spells)
  parsed (Err e) none = none_of (of t) refl none
