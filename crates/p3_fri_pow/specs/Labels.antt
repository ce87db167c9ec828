-- Labels of a description.
use Rattle.std.specs.Prelude.{ℕ, List, ◌++◌}
use Rattle.p3_challenger_fs.specs.Description.{Description}

-- the description with more labels behind its own
abbrev pub labels_added : List (List ℕ) → Description → Description
labels_added labels d = record d { labels = d.labels ++ labels }
