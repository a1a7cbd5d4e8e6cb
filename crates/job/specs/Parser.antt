-- Reading fields one after another: each reader takes the bytes that are left, and refuses or gives a value and what is left then. Assumes nothing.
use Rattle.std.specs.Prelude.{ℕ, zero, suc, ◌+◌, ◌*◌, List, [], ◌∷◌, ◌++◌, Bool, true, false}

-- 01, "Order": the number of the refusal, or what was read and the bytes left
pub data Parsed (A : Type 0) : Type 0 where
  refused : ℕ → Parsed A
  parsed : A → List ℕ → Parsed A

-- 01, "Order": "fields in byte order"
abbrev pub Parser : Type 0 → Type 0
Parser A = List ℕ → Parsed A

module _ {A B : Type 0} where
  -- 01, "Order": the next field where this one was not refused
  abbrev pub and_then : Parsed A → (A → Parser B) → Parsed B
  and_then (refused n) f = refused n
  and_then (parsed a s) f = f a s

  -- 01, "Order": one field after another, which may hang on its value
  infixl 20 ◌>>=◌
  abbrev pub ◌>>=◌ : Parser A → (A → Parser B) → Parser B
  ◌>>=◌ m f = λ s. and_then (m s) f

  -- 01, "Order": one after another
  infixl 20 ◌>>◌
  abbrev pub ◌>>◌ : Parser A → Parser B → Parser B
  ◌>>◌ m n = λ s. and_then (m s) (λ a. n)

module _ {A : Type 0} where
  -- 01, "The job": a value for which no byte is read
  abbrev pub done : A → Parser A
  done a = λ s. parsed a s

  -- 01, "The job": "only the fields whose bit stands", and what an absent one is
  abbrev pub if_bit : Bool → A → Parser A → Parser A
  if_bit true absent p = p
  if_bit false absent p = done absent

module _ {A : Type 0} where
  -- 01, "The job", tables: n of them, one after another, after those of `before`, which each can see
  unfoldable pub each : (List A → Parser A) → ℕ → List A → Parser (List A)
  each p zero before = done before
  each p (suc n) before = do
    x ← p before
    each p n (before ++ (x ∷ []))

-- 01, "Order": refused with the number n where the test passes
abbrev pub refuse : ℕ → Bool → Parser (Unit {0})
refuse n true = λ s. refused n
refuse n false = done tt

-- 01, "The job": "Little-endian", n bytes; 1 where the bytes end inside them
unfoldable pub little : ℕ → Parser ℕ
little zero s = parsed 0 s
little (suc n) [] = refused 1
little (suc n) (b ∷ s) = and_then (little n s) (λ h t. parsed (b + 256 * h) t)

-- 01, "What the stage answers", 2: what is left
abbrev pub rest : Parser (List ℕ)
rest = λ s. parsed s s
