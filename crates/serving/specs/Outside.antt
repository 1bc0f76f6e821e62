-- What lies outside every proof: reading and writing. Of the standard streams their contracts say how many bytes were moved, and no more.
use Rattle.std.specs.Prelude.{ℕ, ◌≤◌, List, [], ◌∷◌, ◌++◌, ◌≡◌, Result, Ok, Err, length, take}
use Rattle.std.specs.Io.{ReadsAtMost, WritesAtMost}
use Rattle.std.specs.declared.io.Error.{Error}

-- The bytes that a read or a write moved: the first of its buffer, as many as it answered, and none if it failed.
abbrev pub moved : Result ℕ Error → List ℕ → List ℕ
moved (Ok n) buffer = take n buffer
moved (Err e) buffer = []

data Stretch : List (List ℕ) → List ℕ → Type 0 where
  idle : Stretch [] []
  reads : (answer : Result ℕ Error) (buffer : List ℕ) → ReadsAtMost answer buffer → Stretch (moved answer buffer ∷ []) []
  writes : (answer : Result ℕ Error) (bytes : List ℕ) → WritesAtMost answer bytes → Stretch [] (moved answer bytes)
  more : (cs ds : List (List ℕ)) (xs ys : List ℕ) → Stretch cs xs → Stretch ds ys → Stretch (cs ++ ds) (xs ++ ys)

-- In a stretch of the program these chunks came in, one a read, and these bytes were handed to the writer, in this order.
-- The definition is shut: no other file can open it, and nothing computes it. A stretch begins at a read or at a write (`a_read`, `a_write`),
-- which only `came_in` and `took_so` cite, for the two functions that call them, `take_in` and `offer`.
pub Happened : List (List ℕ) → List ℕ → Type 0
Happened chunks handed = Stretch chunks handed

pub a_read : (answer : Result ℕ Error) (buffer : List ℕ) → ReadsAtMost answer buffer → Happened (moved answer buffer ∷ []) []
unfolding Happened
a_read answer buffer h = reads answer buffer h

pub a_write : (answer : Result ℕ Error) (bytes : List ℕ) → WritesAtMost answer bytes → Happened [] (moved answer bytes)
unfolding Happened
a_write answer bytes h = writes answer bytes h

-- The writer was offered these bytes, at least one, and took none of them. This too is shut, and only `took_so` cites its law.
pub TookNone : List ℕ → Type 0
TookNone bytes = (answer : Result ℕ Error) × WritesAtMost answer bytes × (moved answer bytes ≡ []) × (1 ≤ length bytes)

pub took_none : (answer : Result ℕ Error) (bytes : List ℕ) → WritesAtMost answer bytes → moved answer bytes ≡ [] → 1 ≤ length bytes → TookNone bytes
unfolding TookNone
took_none answer bytes h e some = (answer, h, e, some)

-- nothing, and one stretch after another
pub nothing_yet : Happened [] []
unfolding Happened
nothing_yet = idle

pub and_then : (cs ds : List (List ℕ)) (xs ys : List ℕ) → Happened cs xs → Happened ds ys → Happened (cs ++ ds) (xs ++ ys)
unfolding Happened
and_then cs ds xs ys h g = more cs ds xs ys h g
