-- The static table (RFC 9204, Appendix A).
use Rattle.std.specs.Prelude.{◌≡◌, ℕ, ◌<◌, List, [], ◌∷◌, codes, Option, Some, position, slice_get}
use Rattle.qpack_spec.specs.Field.{Field, has_name, is_field}

abbrev pub field : List ℕ → List ℕ → Field
field name value = record { name = name; value = value }

-- the 99 fields, the first at index 0
unfoldable pub static_table : List Field
static_table =
    field (codes ":authority") (codes "") ∷  -- 0
    field (codes ":path") (codes "/") ∷  -- 1
    field (codes "age") (codes "0") ∷  -- 2
    field (codes "content-disposition") (codes "") ∷  -- 3
    field (codes "content-length") (codes "0") ∷  -- 4
    field (codes "cookie") (codes "") ∷  -- 5
    field (codes "date") (codes "") ∷  -- 6
    field (codes "etag") (codes "") ∷  -- 7
    field (codes "if-modified-since") (codes "") ∷  -- 8
    field (codes "if-none-match") (codes "") ∷  -- 9
    field (codes "last-modified") (codes "") ∷  -- 10
    field (codes "link") (codes "") ∷  -- 11
    field (codes "location") (codes "") ∷  -- 12
    field (codes "referer") (codes "") ∷  -- 13
    field (codes "set-cookie") (codes "") ∷  -- 14
    field (codes ":method") (codes "CONNECT") ∷  -- 15
    field (codes ":method") (codes "DELETE") ∷  -- 16
    field (codes ":method") (codes "GET") ∷  -- 17
    field (codes ":method") (codes "HEAD") ∷  -- 18
    field (codes ":method") (codes "OPTIONS") ∷  -- 19
    field (codes ":method") (codes "POST") ∷  -- 20
    field (codes ":method") (codes "PUT") ∷  -- 21
    field (codes ":scheme") (codes "http") ∷  -- 22
    field (codes ":scheme") (codes "https") ∷  -- 23
    field (codes ":status") (codes "103") ∷  -- 24
    field (codes ":status") (codes "200") ∷  -- 25
    field (codes ":status") (codes "304") ∷  -- 26
    field (codes ":status") (codes "404") ∷  -- 27
    field (codes ":status") (codes "503") ∷  -- 28
    field (codes "accept") (codes "*/*") ∷  -- 29
    field (codes "accept") (codes "application/dns-message") ∷  -- 30
    field (codes "accept-encoding") (codes "gzip, deflate, br") ∷  -- 31
    field (codes "accept-ranges") (codes "bytes") ∷  -- 32
    field (codes "access-control-allow-headers") (codes "cache-control") ∷  -- 33
    field (codes "access-control-allow-headers") (codes "content-type") ∷  -- 34
    field (codes "access-control-allow-origin") (codes "*") ∷  -- 35
    field (codes "cache-control") (codes "max-age=0") ∷  -- 36
    field (codes "cache-control") (codes "max-age=2592000") ∷  -- 37
    field (codes "cache-control") (codes "max-age=604800") ∷  -- 38
    field (codes "cache-control") (codes "no-cache") ∷  -- 39
    field (codes "cache-control") (codes "no-store") ∷  -- 40
    field (codes "cache-control") (codes "public, max-age=31536000") ∷  -- 41
    field (codes "content-encoding") (codes "br") ∷  -- 42
    field (codes "content-encoding") (codes "gzip") ∷  -- 43
    field (codes "content-type") (codes "application/dns-message") ∷  -- 44
    field (codes "content-type") (codes "application/javascript") ∷  -- 45
    field (codes "content-type") (codes "application/json") ∷  -- 46
    field (codes "content-type") (codes "application/x-www-form-urlencoded") ∷  -- 47
    field (codes "content-type") (codes "image/gif") ∷  -- 48
    field (codes "content-type") (codes "image/jpeg") ∷  -- 49
    field (codes "content-type") (codes "image/png") ∷  -- 50
    field (codes "content-type") (codes "text/css") ∷  -- 51
    field (codes "content-type") (codes "text/html; charset=utf-8") ∷  -- 52
    field (codes "content-type") (codes "text/plain") ∷  -- 53
    field (codes "content-type") (codes "text/plain;charset=utf-8") ∷  -- 54
    field (codes "range") (codes "bytes=0-") ∷  -- 55
    field (codes "strict-transport-security") (codes "max-age=31536000") ∷  -- 56
    field (codes "strict-transport-security") (codes "max-age=31536000; includesubdomains") ∷  -- 57
    field (codes "strict-transport-security") (codes "max-age=31536000; includesubdomains; preload") ∷  -- 58
    field (codes "vary") (codes "accept-encoding") ∷  -- 59
    field (codes "vary") (codes "origin") ∷  -- 60
    field (codes "x-content-type-options") (codes "nosniff") ∷  -- 61
    field (codes "x-xss-protection") (codes "1; mode=block") ∷  -- 62
    field (codes ":status") (codes "100") ∷  -- 63
    field (codes ":status") (codes "204") ∷  -- 64
    field (codes ":status") (codes "206") ∷  -- 65
    field (codes ":status") (codes "302") ∷  -- 66
    field (codes ":status") (codes "400") ∷  -- 67
    field (codes ":status") (codes "403") ∷  -- 68
    field (codes ":status") (codes "421") ∷  -- 69
    field (codes ":status") (codes "425") ∷  -- 70
    field (codes ":status") (codes "500") ∷  -- 71
    field (codes "accept-language") (codes "") ∷  -- 72
    field (codes "access-control-allow-credentials") (codes "FALSE") ∷  -- 73
    field (codes "access-control-allow-credentials") (codes "TRUE") ∷  -- 74
    field (codes "access-control-allow-headers") (codes "*") ∷  -- 75
    field (codes "access-control-allow-methods") (codes "get") ∷  -- 76
    field (codes "access-control-allow-methods") (codes "get, post, options") ∷  -- 77
    field (codes "access-control-allow-methods") (codes "options") ∷  -- 78
    field (codes "access-control-expose-headers") (codes "content-length") ∷  -- 79
    field (codes "access-control-request-headers") (codes "content-type") ∷  -- 80
    field (codes "access-control-request-method") (codes "get") ∷  -- 81
    field (codes "access-control-request-method") (codes "post") ∷  -- 82
    field (codes "alt-svc") (codes "clear") ∷  -- 83
    field (codes "authorization") (codes "") ∷  -- 84
    field (codes "content-security-policy") (codes "script-src 'none'; object-src 'none'; base-uri 'none'") ∷  -- 85
    field (codes "early-data") (codes "1") ∷  -- 86
    field (codes "expect-ct") (codes "") ∷  -- 87
    field (codes "forwarded") (codes "") ∷  -- 88
    field (codes "if-range") (codes "") ∷  -- 89
    field (codes "origin") (codes "") ∷  -- 90
    field (codes "purpose") (codes "prefetch") ∷  -- 91
    field (codes "server") (codes "") ∷  -- 92
    field (codes "timing-allow-origin") (codes "*") ∷  -- 93
    field (codes "upgrade-insecure-requests") (codes "1") ∷  -- 94
    field (codes "user-agent") (codes "") ∷  -- 95
    field (codes "x-forwarded-for") (codes "") ∷  -- 96
    field (codes "x-frame-options") (codes "deny") ∷  -- 97
    field (codes "x-frame-options") (codes "sameorigin") ∷  -- 98
    []

-- the field at an index
abbrev pub IsStaticAt : ℕ → Field → Type 0
IsStaticAt index f = slice_get static_table index ≡ Some f

-- the least index of a field that is in P
pub record IsLeastStatic (P : Field → Type 0) (index : ℕ) : Type 0 where
  pub at : (f : Field) × IsStaticAt index f × P f
  pub before : (k : ℕ) (f : Field) → k < index → IsStaticAt k f → P f → ⊥

-- no field of the table is in P
abbrev pub NoStatic : (Field → Type 0) → Type 0
NoStatic P = (k : ℕ) (f : Field) → IsStaticAt k f → P f → ⊥

-- ---- searching from the front

-- the index of the equal field
unfoldable pub static_index : Field → Option ℕ
static_index f = position (is_field f) static_table

-- the least index of a field with the name
unfoldable pub static_name_index : List ℕ → Option ℕ
static_name_index name = position (has_name name) static_table
