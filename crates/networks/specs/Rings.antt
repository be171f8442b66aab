-- A ring of tags: its places, each with the tag that it keeps, or free.
use Rattle.std.specs.Prelude.{ℕ, suc, Bool, true, false, cond, List, [], ◌∷◌, length, Some, None, Ok, Err, Option, Result, ◌==◌, nat_lt, slice_set}
use Rattle.networks.specs.declared.tags.Tag.{Tag}
use Rattle.networks.specs.Answers.{Told}

abbrev pub Places : Type 0
Places = List (Option Tag)

-- the tag of an arc
abbrev pub tag_of : ℕ → Tag
tag_of a = record { arc = a }

-- no tag is in this place
abbrev pub is_free : Option Tag → Bool
is_free None = true
is_free (Some t) = false

-- a tag of arc a is in this place
abbrev pub holds : ℕ → Option Tag → Bool
holds a None = false
holds a (Some t) = t.arc == a

-- the first place that is so, or the length
abbrev pub first_place : (Option Tag → Bool) → Places → ℕ
first_place so [] = 0
first_place so (x ∷ xs) = cond (so x) 0 (suc (first_place so xs))

-- some place is so
abbrev pub any_place : (Option Tag → Bool) → Places → Bool
any_place so xs = nat_lt (first_place so xs) (length xs)

-- the first place that is so, if any is
abbrev pub found_place : (Option Tag → Bool) → Places → Option ℕ
found_place so xs = cond (any_place so xs) (Some (first_place so xs)) None

-- no place holds a tag
abbrev pub free_of_tags : Places → Bool
free_of_tags [] = true
free_of_tags (x ∷ xs) = cond (is_free x) (free_of_tags xs) false

-- there is a free place
abbrev pub has_room : Places → Bool
has_room = any_place is_free

-- a tag of arc a is kept
abbrev pub keeps : Places → ℕ → Bool
keeps places a = any_place (holds a) places

-- the first free place takes the tag of arc a
abbrev pub with_tag : Places → ℕ → Places
with_tag places a = slice_set places (first_place is_free places) (Some (tag_of a))

-- the first tag of arc a leaves its place
abbrev pub without_tag : Places → ℕ → Places
without_tag places a = slice_set places (first_place (holds a) places) None

-- a tag is taken in where a place is free
abbrev pub put_in : Places → ℕ → Places
put_in places a = cond (has_room places) (with_tag places a) places

abbrev pub put_in_answer : Places → Tag → Result (Unit {0}) Tag
put_in_answer places t = cond (has_room places) (Ok tt) (Err t)

abbrev pub given_out : Places → ℕ → Places
given_out places a = cond (keeps places a) (without_tag places a) places

abbrev pub given_out_answer : Places → ℕ → Option Tag
given_out_answer places a = cond (keeps places a) (Some (tag_of a)) None

-- what comes of a call through a ring: a refusal is told; a call that would be granted is made where the ring can do its part
abbrev pub through_ring : Bool → Option Told → Option (Option Told)
through_ring able (Some s) = Some (Some s)
through_ring able None = cond able (Some None) None
