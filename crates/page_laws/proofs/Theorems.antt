-- The claims, by the laws of the other files.
use Rattle.page_laws.specs.Claims.{ConnectNet, AllNets, PageSeparable, SeparatePage, EndpointStays}
use Rattle.page_laws.proofs.Connect.{connect}
use Rattle.page_laws.proofs.Nets.{routed}
use Rattle.page_laws.proofs.Separate.{page-separable, page-bounded, page-still, page-parted, endpoint-stays}

pub connect-net : ConnectNet
connect-net lo hi px py P R j page G ground = connect lo hi px py P R j page G ground

pub all-nets : AllNets
all-nets lo hi G ground px py P R j page k = routed lo hi G ground px py P R j page k

pub separable : PageSeparable
separable lo hi P R j page a b = page-separable lo hi P R j page a b

pub separate-page : SeparatePage
separate-page lo hi P R j page = record { bounded = page-bounded lo hi P R j page; still = page-still lo hi P R j page; parted = page-parted lo hi P R j page }

pub stays : EndpointStays
stays lo hi P R j page Q S a b px py h T = endpoint-stays lo hi P R j page Q S a b px py h T
