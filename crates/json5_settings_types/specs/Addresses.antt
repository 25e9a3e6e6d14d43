-- Addresses as texts, computed. The law of addresses says that they are those of the grammar (`IsIpText`, `IsSocketText`).
-- A promise rests on this.
use Rattle.std.specs.Prelude.{ℕ, List, Option, Some, None, option_map}
use Rattle.std.specs.declared.net.ip_addr.IpAddr.{IpAddr}
use Rattle.std.specs.declared.net.ip_addr.IpAddr.TheVariants as Ip
use Rattle.std.specs.declared.net.ipv4_addr.Ipv4Addr.{Ipv4Addr}
use Rattle.std.specs.declared.net.ipv6_addr.Ipv6Addr.{Ipv6Addr}
use Rattle.std.specs.declared.net.socket_addr.SocketAddr.{SocketAddr}
use Rattle.std.specs.declared.net.socket_addr.SocketAddr.TheVariants as Socket
use Rattle.std.specs.declared.net.socket_addr.SocketAddrV4.{SocketAddrV4}
use Rattle.std.specs.declared.net.socket_addr.SocketAddrV6.{SocketAddrV6}
use Rattle.std.specs.Net.Reader.{read_ipv4, read_ipv6, read_socket_v4, read_socket_v6, whole_value}

-- the first, or else the other
abbrev pub either_of : {A : Type 0} → Option A → Option A → Option A
either_of None o = o
either_of (Some a) o = Some a

abbrev pub v4_of : List ℕ → Ipv4Addr
v4_of octets = record { octets = octets }

abbrev pub v6_of : List ℕ → Ipv6Addr
v6_of segments = record { segments = segments }

-- an IPv4 address, or else an IPv6 address
abbrev pub ip_of : List ℕ → Option IpAddr
ip_of text = either_of (option_map (λ o. Ip.V4 (v4_of o)) (whole_value (read_ipv4 text))) (option_map (λ s. Ip.V6 (v6_of s)) (whole_value (read_ipv6 text)))

abbrev pub socket_v4_of : List ℕ × ℕ → SocketAddrV4
socket_v4_of p = record { ip = v4_of p.0; port = p.1 }

abbrev pub socket_v6_of : List ℕ × ℕ × ℕ × ℕ → SocketAddrV6
socket_v6_of (ip, port, flowinfo, scope) = record { ip = v6_of ip; port = port; flowinfo = flowinfo; scope_id = scope }

-- the same with a port behind it
abbrev pub socket_of : List ℕ → Option SocketAddr
socket_of text = either_of (option_map (λ p. Socket.V4 (socket_v4_of p)) (whole_value (read_socket_v4 text))) (option_map (λ p. Socket.V6 (socket_v6_of p)) (whole_value (read_socket_v6 text)))
