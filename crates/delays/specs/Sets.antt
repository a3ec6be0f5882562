-- Delays that are the kernel times 1, 2, 4 .. in some order.
use Rattle.std.specs.Prelude.{ℕ, zero, suc, ◌+◌, ◌*◌, Bool, true, false, ◌&&◌, ◌||◌, List, [], ◌∷◌, length, ◌==◌}
use Rattle.std.specs.List.Sorted.{IsPermutation}
use Rattle.sums.specs.Sums.{late}

-- d, 2d, 4d .., n numbers
abbrev pub doublings : ℕ → ℕ → List ℕ
doublings d zero = []
doublings d (suc n) = d ∷ doublings (2 * d) n

-- whether the wanted number is in the list
abbrev pub contains : ℕ → List ℕ → Bool
contains wanted [] = false
contains wanted (d ∷ ds) = d == wanted || contains wanted ds

-- whether every number of the first list is in the second
abbrev pub all_in : List ℕ → List ℕ → Bool
all_in [] ds = true
all_in (w ∷ ws) ds = contains w ds && all_in ws ds

-- the test of a key's delays: of the products kernel, 2 kernel, 4 kernel .. as many as there are delays, all among the delays
abbrev pub is_set : ℕ → List ℕ → Bool
is_set kernel ds = all_in (doublings kernel (length ds)) ds

-- the delays are these products in some order, each once
abbrev pub InSomeOrder : ℕ → List ℕ → Type 0
InSomeOrder kernel ds = IsPermutation (doublings kernel (length ds)) ds

-- the counts at each place, added to the same counts d places later
abbrev pub spread : ℕ → (ℕ → ℕ) → ℕ → ℕ
spread d c j = c j + late 0 d c j

-- one step for each delay of the list, the first delay first
abbrev pub folded : {X : Type 0} → (ℕ → X → X) → List ℕ → X → X
folded f [] x = x
folded f (d ∷ ds) x = folded f ds (f d x)
