-- What a search is lent, as the definitions see it.
use Rattle.path_finding.specs.declared.Output.{Output}
use Rattle.desk_search.specs.Query.{Query, query}
use Rattle.desk_search.specs.Search.{Outputs, outputs}
use Rattle.desk_search.specs.declared.Request.{Request}

abbrev pub query_in : Request → Query
query_in r = query r.prune r.x r.y r.end_x.now r.end_y.now

abbrev pub outputs_in : Output → Outputs
outputs_in o = outputs o.x.now o.y.now o.kinds.now o.directions.now
