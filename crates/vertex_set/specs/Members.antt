-- What a vertex set stands for.
use Rattle.std.specs.Prelude.{ℕ, List}
use Rattle.vertex_set.specs.Sets.{Set}
use Rattle.vertex_set.specs.Words.{member}
use Rattle.vertex_set.specs.Lists.{listed}
use Rattle.vertex_set.specs.declared.set.VertexSet.{VertexSet}
use Rattle.vertex_set.specs.declared.set.members.Members.{Members}

-- the members of s
abbrev pub members : VertexSet → Set
members s = member s.words

-- the members that an iterator has left
abbrev pub members_left : Members → List ℕ
members_left m = listed (members m.set.now) m.from
