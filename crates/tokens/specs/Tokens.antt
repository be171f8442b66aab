-- The token at the front of a text.
use Rattle.std.specs.Prelude.{ℕ, ◌+◌, ◌-◌, ◌*◌, ◌≤◌, Bool, cond, ◌&&◌, ◌||◌, List, [], ◌∷◌, length, take, drop, ℤ, pos, neg_ℤ, Ok, Err, codes, Result, ◌==◌, nat_lt, slice_index}
use Rattle.std.specs.Char.{is_ascii_digit, is_ascii_lowercase}
use Rattle.std.specs.List.{prefix_len}
use Rattle.tokens.specs.declared.scan.Token.{Token}
use Rattle.tokens.specs.declared.scan.Token.TheVariants as token
use Rattle.tokens.specs.declared.spots.Cause.{Cause}
use Rattle.tokens.specs.declared.spots.Cause.TheVariants as cause

-- a token by its bytes
pub data Shape : Type 0 where
  opens : Shape
  closes : Shape
  space : Shape
  line_feed : Shape
  word : List ℕ → Shape
  number : List ℕ → Shape

abbrev pub shape : Token → Shape
shape token.Open = opens
shape token.Close = closes
shape token.Space = space
shape token.LineFeed = line_feed
shape (token.Word w) = word w.now
shape (token.Number w) = number w.now

-- the bytes of a token
abbrev pub bytes_of : Shape → List ℕ
bytes_of opens = codes "("
bytes_of closes = codes ")"
bytes_of space = codes " "
bytes_of line_feed = 10 ∷ []
bytes_of (word w) = w
bytes_of (number w) = w

abbrev pub shown : Result Token Cause → Result Shape Cause
shown (Ok x) = Ok (shape x)
shown (Err e) = Err e

-- how many bytes the sign takes: one if there is a minus
abbrev pub sign_of : List ℕ → ℕ
sign_of xs = cond (slice_index xs 0 == 45) 1 0

-- no number: no digit, more than 7, or a zero that does not stand alone
abbrev pub malformed : ℕ → ℕ → ℕ → Bool
malformed sign digits first = digits == 0 || (nat_lt 7 digits || (first == 48 && nat_lt 1 (sign + digits)))

-- the number at the front of a text that begins with a minus or a digit
abbrev pub number_of : ℕ → ℕ → List ℕ → Result Shape Cause
number_of sign digits xs = cond (malformed sign digits (slice_index xs sign)) (Err cause.Number) (Ok (number (take (sign + digits) xs)))

abbrev pub number_at : List ℕ → Result Shape Cause
number_at xs = number_of (sign_of xs) (prefix_len is_ascii_digit (drop (sign_of xs) xs)) xs

-- the token that a single byte is
abbrev pub mark_of : ℕ → Result Shape Cause
mark_of b = cond (b == 40) (Ok opens) (cond (b == 41) (Ok closes) (cond (b == 32) (Ok space) (cond (b == 10) (Ok line_feed) (Err cause.Byte))))

-- the token at the front, or what is wrong there
abbrev pub front_of : List ℕ → Result Shape Cause
front_of xs = cond (length xs == 0) (Err cause.End) (cond (nat_lt 0 (prefix_len is_ascii_lowercase xs)) (Ok (word (take (prefix_len is_ascii_lowercase xs) xs)))
    (cond (slice_index xs 0 == 45 || is_ascii_digit (slice_index xs 0)) (number_at xs) (mark_of (slice_index xs 0))))

-- what digits say, after a number so far
abbrev pub decimal : ℕ → List ℕ → ℕ
decimal n [] = n
decimal n (x ∷ xs) = decimal (n * 10 + (x - 48)) xs

-- what the bytes of a number say
abbrev pub value_of : List ℕ → ℤ
value_of w = cond (nat_lt 0 (sign_of w)) (neg_ℤ (pos (decimal 0 (drop (sign_of w) w)))) (pos (decimal 0 (drop (sign_of w) w)))

-- a token that is part of a text of this length; a number has at most 7 digits
abbrev pub Within : Token → ℕ → Type 0
Within token.Open n = 1 ≤ n
Within token.Close n = 1 ≤ n
Within token.Space n = 1 ≤ n
Within token.LineFeed n = 1 ≤ n
Within (token.Word w) n = length w.now ≤ n
Within (token.Number w) n = (length w.now ≤ n) × (length w.now ≤ sign_of w.now + 7)
