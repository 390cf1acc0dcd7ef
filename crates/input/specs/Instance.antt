-- Instances: the fault of a list of words (0: accepted), and the sizes and entries that accepted words mean.
use Rattle.std.specs.Prelude.{ℕ, zero, suc, ◌+◌, cond, List, [], ◌∷◌, ◌++◌, map, get_or, take, drop, eqb}
use Rattle.wcsp.specs.Entry.{Entry}
use Rattle.words.specs.Layout.{payload_of}
use Rattle.fields.specs.Front.{head_in, headed, size_in}
use Rattle.fields.specs.Entries.{entries_from}
use Rattle.entries.specs.Entries.{entries_fault}

-- k station words are to come, after those of these sizes; then the entries
unfoldable pub stations_fault : ℕ → List ℕ → List ℕ → ℕ
unfolding entries_fault
stations_fault zero sizes ws = entries_fault sizes 0 0 ws
stations_fault (suc k) sizes [] = 2
stations_fault (suc k) sizes (w ∷ ws) =
    let d = size_in w in cond (eqb d 0) 2 (stations_fault k (sizes ++ (d ∷ [])) ws)

-- the fault of an instance: 0 if it is accepted, as no words at all are, else the number of the faulty word nearest the front
unfoldable pub instance_fault : List ℕ → ℕ
unfolding stations_fault headed
instance_fault [] = 0
instance_fault (w ∷ ws) = headed 1 (λ n. stations_fault n [] ws) (head_in w)

-- the sizes and the entries of an accepted instance
unfoldable pub sizes_of : List ℕ → List ℕ
sizes_of ws = map payload_of (take (payload_of (get_or ws 0 0)) (drop 1 ws))

unfoldable pub entries_of : List ℕ → List Entry
unfolding entries_from
entries_of ws = entries_from [] (drop (1 + payload_of (get_or ws 0 0)) ws)
